use mathlib.Core.Path.{◌∙◌}
use Prim.Native.Nat.{◌*◌, ◌/◌, ◌^◌}
use lib.Bits.{and_mask}
use Rattle.request_laws.specs.Request.{role_digit}
use Rattle.request_laws.proofs.Tables.{limit_unused, limit_desk, limit_tracer, limit_number}
use Rattle.field_tables.proofs.tables.limit_by.Goals as goal

pub returns-in-0 : goal.returns-in-0
unfolding role_digit
returns-in-0 g c = limit_unused g.W.Word.BITS _ (rw (and_mask (c.args.t / 2 ^ (2 * c.args.n)) 2) at c.in-0.is)

pub returns-in-1 : goal.returns-in-1
unfolding role_digit
returns-in-1 g c = limit_desk g.W.Word.BITS _ (rw (and_mask (c.args.t / 2 ^ (2 * c.args.n)) 2) at c.in-1.is)

pub returns-in-2 : goal.returns-in-2
unfolding role_digit
returns-in-2 g c = limit_tracer g.W.Word.BITS _ (rw (and_mask (c.args.t / 2 ^ (2 * c.args.n)) 2) at c.in-2.is)

pub returns-in_default : goal.returns-in_default
unfolding role_digit
returns-in_default g c =
    let e = and_mask (c.args.t / 2 ^ (2 * c.args.n)) 2 in
    c.VALUES.ensures ∙ g.met.W.Word.laws.values ∙ limit_number g.W.Word.BITS _ (rw e at c.in_default.in_default-own.rest.0.0.1) (rw e at c.in_default.in_default-own.rest.0.1) (rw e at c.in_default.in_default-own.rest.1)
