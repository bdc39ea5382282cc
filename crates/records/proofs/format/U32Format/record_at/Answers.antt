use mathlib.Core.Path.{refl}
use native.Mathlib.Omega.{arith}
use Rattle.model.specs.Records.{record_bytes}
use Rattle.show_store_laws.proofs.Record.{two_zeros, record_is}
use Rattle.records.proofs.format.U32Format.record_at.Goals as goal

pub returns : goal.returns
unfolding record_bytes
returns c =
    let A = c.args in
    let x = c.wide-kind.ensures in
    let y = c.wide-who.ensures in
    let z = c.pair-zeros.ensures in
    let a = c.quad-a.ensures in
    let b = c.quad-b.ensures in
    let d = c.quad-c.ensures in
    record_is 32 4 refl (omega arith) A.steps.now A.at _ _ _ _ _ _ x.0 y.0 (two_zeros A.steps.now A.at _ z.0) a.0 b.0 d.0 (omega (arith, y.1)) a.1 b.1 d.1
