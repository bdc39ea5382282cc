-- What is left of a tracer's step that goes on.
use Rattle.std.specs.Prelude.{Bool, true, false}
use Rattle.model.specs.Image.{Image}
use Rattle.request_laws.specs.Answer.{done}
use Rattle.model.specs.Steps as steps

-- nothing to do (true), or image m becomes m'
unfoldable pub done_unless : Bool → Image → Image → steps.Done
done_unless true m m' = done 11 0 m
done_unless false m m' = done 0 0 m'
