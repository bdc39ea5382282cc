use Rattle.std.proofs.Common.{◌%◌, ap, not, arith}
use Rattle.model.specs.Base.{nth, put, set_bit}
use Rattle.image_laws.proofs.Masks.{one_shl, or_pow}
use Rattle.sets.proofs.first_time.Goals as goal

pub returns : goal.returns
unfolding set_bit nth put
returns c = let j = c.args.g % 64 in (ap not c.in_set-is_new.ensures, rw (one_shl 64 j (omega arith), or_pow _ j))
