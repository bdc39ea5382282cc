-- The records before record i have run, and the reader stands behind them.
use Rattle.std.proofs.Common.{◌≡◌, ◌*◌}
use Rattle.show_store_laws.proofs.Run.{Ran}
use Rattle.run.proofs.run_counted.Given as goal

abbrev pub invariant-loop-i : goal.invariant-loop-i
invariant-loop-i g l = record {
  ran : Ran g.W.Word.BITS l.k (g.W.Word.words l.initial.im) l.steps (g.W.Word.words l.initial.answers) l.i-end (g.W.Word.words l.im) (g.W.Word.words l.answers) l.free l.i;
  bytes : l.reader.bytes.now ≡ l.steps;
  place : l.reader.at ≡ g.W.Format.RECORD * l.i;
}
