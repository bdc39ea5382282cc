use Rattle.collector_laws.proofs.Cleaning.{dirty_in}
use Rattle.card_cleaning.proofs.cleaning.clean_lines.Goals as goal

pub take_card-requires-clause-t_bound : goal.take_card-requires-clause-t_bound
take_card-requires-clause-t_bound g c = (c.requires.t_bound, dirty_in _ _ _ _ c.in-Some.ensures)
