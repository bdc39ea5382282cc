use mathlib.Core.Path.{refl}
use native.Mathlib.Omega.{arith}
use lib.ListN.{drop}
use Rattle.model.specs.Records.{record_bytes}
use Rattle.show_store_laws.proofs.Record.{no_zeros, record_is}
use Rattle.records.proofs.format.U16Format.record_at.Goals as goal

pub returns : goal.returns
unfolding record_bytes
returns c =
    let A = c.args in
    let x = c.wide-kind.ensures in
    let y = c.wide-who.ensures in
    let a = c.pair-a.ensures in
    let b = c.pair-b.ensures in
    let d = c.pair-c.ensures in
    record_is 16 2 refl (omega arith) A.steps.now A.at _ _ _ _ _ _ x.0 y.0 (no_zeros (drop A.at A.steps.now)) a.0 b.0 d.0 (omega (arith, y.1)) a.1 b.1 d.1
