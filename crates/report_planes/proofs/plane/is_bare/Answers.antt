use native.Mathlib.Omega.{arith}
use Rattle.report_laws.proofs.Plane.{bare_is}
use Rattle.report_planes.proofs.plane.is_bare.Goals as goal

pub returns : goal.returns
returns g c =
    rw (← c.value.ensures.value, ← c.value-2.ensures.value)
    (bare_is g.W.Word.BITS 64 c.value.result c.value-2.result _ (omega (arith, g.met.W.Word.laws.one_of_two)) c.value.ensures.fits (omega (arith, c.value-2.type_inv)))
