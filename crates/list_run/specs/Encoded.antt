-- A list of calls as it is lent: six numbers a call, and a pool of bytes (document 01, "The plain store", second paragraph, speaks of such
-- lists). The numbers are kind, number, the write at which the power fails, its effect, and where the call's bytes begin in the pool and
-- how many they are; steps, Stepped.antt, has the call of a kind.
use Rattle.std.specs.Prelude.{ℕ, ◌+◌, List, [], ◌∷◌, ◌++◌, length, get_or}
use Rattle.fields.specs.Bytes.{part}
use Rattle.model.specs.declared.Effect.{Effect}
use Rattle.model.specs.Calls.{Call, save_virtual, free_virtual, commit, save_block, save_packet, spare_packet, open_disc}
use Rattle.model.specs.Store.{cut_in}
use Rattle.call_numbers.specs.Numbers.{cut_of}
use Rattle.list_step.specs.Stepped.{call_of}

-- ---- reading them

-- the calls that are lent; of bytes past the pool's end there is what the pool has, and fewer than six numbers are no call
unfoldable pub decode : List ℕ → List ℕ → List Call
decode [] pool = []
decode (k ∷ []) pool = []
decode (k ∷ n ∷ []) pool = []
decode (k ∷ n ∷ c ∷ []) pool = []
decode (k ∷ n ∷ c ∷ x ∷ []) pool = []
decode (k ∷ n ∷ c ∷ x ∷ from ∷ []) pool = []
decode (k ∷ n ∷ c ∷ x ∷ from ∷ count ∷ ns) pool = call_of k n (cut_of c x) (part pool from count) ∷ decode ns pool

-- the call whose six numbers stand from `at` on
unfoldable pub call_at : List ℕ → List ℕ → ℕ → Call
call_at ns pool at =
    call_of (get_or ns at 0) (get_or ns (at + 1) 0) (cut_of (get_or ns (at + 2) 0) (get_or ns (at + 3) 0))
    (part pool (get_or ns (at + 4) 0) (get_or ns (at + 5) 0))

-- ---- writing them

-- the number of an effect
unfoldable pub effect_number : Effect → ℕ
effect_number Effect.Old = 0
effect_number Effect.Unreadable = 1
effect_number Effect.Whole = 2

-- the kind of a call
unfoldable pub kind_of : Call → ℕ
kind_of (save_virtual v b c) = 0
kind_of (free_virtual v) = 1
kind_of (commit c) = 2
kind_of (save_block n b c) = 3
kind_of (save_packet n b c) = 4
kind_of (spare_packet n b c) = 5
kind_of open_disc = 6

-- its number, 0 where it has none
unfoldable pub number_in : Call → ℕ
number_in (save_virtual v b c) = v
number_in (free_virtual v) = v
number_in (commit c) = 0
number_in (save_block n b c) = n
number_in (save_packet n b c) = n
number_in (spare_packet n b c) = n
number_in open_disc = 0

-- its bytes
unfoldable pub bytes_in : Call → List ℕ
bytes_in (save_virtual v b c) = b
bytes_in (free_virtual v) = []
bytes_in (commit c) = []
bytes_in (save_block n b c) = b
bytes_in (save_packet n b c) = b
bytes_in (spare_packet n b c) = b
bytes_in open_disc = []

-- the numbers of a list of calls whose bytes stand in the pool from `at` on
unfoldable pub encode : ℕ → List Call → List ℕ
encode at [] = []
encode at (c ∷ cs) =
    kind_of c
    ∷ number_in c
    ∷ (cut_in c).at
    ∷ effect_number (cut_in c).effect
    ∷ at
    ∷ length (bytes_in c)
    ∷ encode (at + length (bytes_in c)) cs

-- the pool of a list of calls: their bytes, one after the other
unfoldable pub pool_of : List Call → List ℕ
pool_of [] = []
pool_of (c ∷ cs) = bytes_in c ++ pool_of cs
