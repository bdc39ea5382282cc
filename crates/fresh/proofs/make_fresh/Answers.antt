use borrow.Author.Rules.{rules}
use Rattle.std.proofs.Common.{◌≡◌, length}
use Rattle.image.proofs.Words.{same_length}
use Rattle.image_laws.proofs.Fresh.{fresh_written}
use Rattle.fresh.proofs.make_fresh.Goals as goal

pub returns : goal.returns
returns g c =
    let n : length c.set_first_run.new.im ≡ length c.args.im.now = search rules in
    fresh_written _ _ _ _ _ _ c.requires (same_length g.met.W.Word.laws.by_value c.args.im.now _ n) c.clear.ensures (rw c.of.ensures at c.set_word.ensures) (rw c.of-2.ensures at c.set_first_run.ensures)
