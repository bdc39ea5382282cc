-- What the length of a record is.
use Rattle.std.specs.Prelude.{◌≡◌, refl, ℕ, ◌<◌}
use Rattle.std.proofs.Common.{arith}
use Rattle.model.specs.Records.{record_bytes}

-- a record of so many bytes, where words have so many bits
pub record IsFormat (bits bytes : ℕ) : Type 0 where
  pub some_bytes : 0 < bytes
  pub length_of_record : bytes ≡ record_bytes bits

pub narrow_is_format : IsFormat 16 8
unfolding record_bytes
narrow_is_format = record { some_bytes = omega arith; length_of_record = refl }

pub wide_is_format : IsFormat 32 16
unfolding record_bytes
wide_is_format = record { some_bytes = omega arith; length_of_record = refl }
