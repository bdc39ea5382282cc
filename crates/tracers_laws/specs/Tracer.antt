-- Tracers by value, as the image has them.
use Rattle.std.specs.Prelude.{cond, ℕ, ◌+◌, ◌*◌, ltb}
use Rattle.model.specs.Image.{Image, input, output, hand, next_link, hand_card, next_granule, set_tracer}

pub record Tracer : Type 0 where
  pub input : ℕ
  pub output : ℕ
  pub hand : ℕ
  pub link : ℕ
  pub card : ℕ
  pub granule : ℕ

-- tracer t of an image
unfoldable pub tracer_at : Image → ℕ → Tracer
tracer_at m t = record { input = input m t; output = output m t; hand = hand m t; link = next_link m t; card = hand_card m t; granule = next_granule m t }

-- ---- the next states, each by the sentence that it comes from; a packet is given by its number + 1

abbrev pub at_next_link : Tracer → Tracer
at_next_link x = record { input = x.input; output = x.output; hand = x.hand; link = x.link + 1; card = x.card; granule = x.granule }

abbrev pub hand_empty : Tracer → Tracer
hand_empty x = record { input = x.input; output = x.output; hand = 0; link = 0; card = x.card; granule = x.granule }

-- "that link is reached, and after the last the hand is empty": the object has n links
unfoldable pub link_done : Tracer → ℕ → Tracer
link_done x n = cond (ltb (x.link + 1) n) (at_next_link x) (hand_empty x)

-- "it goes in hand at link 0": the object at g
unfoldable pub object_in_hand : Tracer → ℕ → Tracer
object_in_hand x g = record { input = x.input; output = x.output; hand = g; link = 0; card = x.card; granule = x.granule }

-- "the lowest card .. is in hand at its first granule": card c
unfoldable pub card_taken : Tracer → ℕ → Tracer
card_taken x c = record { input = x.input; output = x.output; hand = x.hand; link = x.link; card = c + 1; granule = 64 * c }

-- "the next granule is the one after its start": the start of the object at g
unfoldable pub granule_moves_on : Tracer → ℕ → Tracer
granule_moves_on x g = record { input = x.input; output = x.output; hand = x.hand; link = x.link; card = x.card; granule = g + 1 }

-- "the card is let go"
unfoldable pub card_let_go : Tracer → Tracer
card_let_go x = record { input = x.input; output = x.output; hand = x.hand; link = x.link; card = 0; granule = 0 }

-- "the input goes back and the fullest pool packet .. becomes input"
unfoldable pub packet_becomes_input : Tracer → ℕ → Tracer
packet_becomes_input x p = record { input = p; output = x.output; hand = x.hand; link = x.link; card = x.card; granule = x.granule }

-- "the input goes back and the output becomes input"
unfoldable pub output_becomes_input : Tracer → Tracer
output_becomes_input x = record { input = x.output; output = 0; hand = x.hand; link = x.link; card = x.card; granule = x.granule }

-- "A full or absent output packet first goes back"
unfoldable pub output_goes_back : Tracer → Tracer
output_goes_back x = record { input = x.input; output = 0; hand = x.hand; link = x.link; card = x.card; granule = x.granule }

-- "the pool packet .. is taken. If there is none, no packet is held as output": then p is 0
unfoldable pub output_taken : Tracer → ℕ → Tracer
output_taken x p = record { input = x.input; output = p; hand = x.hand; link = x.link; card = x.card; granule = x.granule }

-- ---- written back

-- the image with these words as tracer t; its two zero words stay
unfoldable pub with_tracer : Image → ℕ → Tracer → Image
with_tracer m t x =
    let a : Image = set_tracer (set_tracer m t 0 x.input) t 1 x.output in
    let b : Image = set_tracer (set_tracer a t 2 x.hand) t 3 x.link in
    set_tracer (set_tracer b t 4 x.card) t 5 x.granule
