use mathlib.Core.Path.{refl}
use Rattle.request_laws.specs.Request.{requested}
use Rattle.request_laws.proofs.Fields.{refused, admitted_passes}
use Rattle.dispatch.proofs.perform.perform.Goals as goal

pub dispatch-requires-clause-passed : goal.dispatch-requires-clause-passed
unfolding requested
dispatch-requires-clause-passed g c = admitted_passes _ _ c.in-Ok.ensures.admission tt refl

pub returns-in-Err-clause-im_after : goal.returns-in-Err-clause-im_after
unfolding requested
returns-in-Err-clause-im_after g c = refused _ _ c.in-Err.ensures.admission _ refl
