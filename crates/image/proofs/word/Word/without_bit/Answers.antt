use Rattle.std.proofs.Common.{◌∙◌}
use borrow.Author.Rules.{rules}
use Rattle.image_laws.proofs.Places.{few_bits}
use Rattle.image_laws.proofs.Masks.{one_shl, and_not_pow}
use Rattle.image.proofs.word.Word.without_bit.Goals as goal

pub returns : goal.returns
returns g c =
    let few = few_bits g.met.Self.Word.laws.one_of_two c.requires in
    c.of.ensures ∙ rw (one_shl 64 c.args.j few, ← c.value.ensures.value) (and_not_pow 64 c.value.result c.args.j (search rules) few)
