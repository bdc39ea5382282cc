-- A record that numbers 3 to 5 let pass: its step goes on with the image.
use Rattle.std.specs.Prelude.{◌≡◌, false}
use Rattle.model.specs.Image.{Image}
use Rattle.model.specs.Records.{Step, Kind, kind_of}
use Rattle.model.specs.Steps.{unnamed, off_desk, owing}

pub record Passed (m : Image) (s : Step) (n : Kind) : Type 0 where
  pub is_kind : kind_of s.kind ≡ n
  pub named : unnamed s n ≡ false
  pub on_desk : off_desk s m.k n ≡ false
  pub none_owed : owing m s n ≡ false
