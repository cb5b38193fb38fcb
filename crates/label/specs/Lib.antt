pub mod PerMille
