use Rattle.image.proofs.Words.{word_written}
use Rattle.soundness_laws.specs.Small.{put_four}
use Rattle.targets.proofs.small.put_four.Goals as goal

pub returns : goal.returns
unfolding put_four
returns g c = simp (word_written g.met.W.Word.laws.by_value)
