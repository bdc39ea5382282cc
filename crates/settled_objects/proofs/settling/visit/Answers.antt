use borrow.Author.Rules.{rules}
use Rattle.finish_marking_laws.proofs.follow.Visits.{visit_nil, visit_marked, visit_on, visit_new}
use Rattle.settled_objects.proofs.settling.visit.Goals as goal

pub returns-then-a-eq0 : goal.returns-then-a-eq0
returns-then-a-eq0 g c = record { im_after = search (rules, visit_nil); upper_bound = search rules }

pub returns-then-is_marked : goal.returns-then-is_marked
returns-then-is_marked g c = record { im_after = search (rules, visit_marked); upper_bound = search rules }

pub returns-then-v-ne0 : goal.returns-then-v-ne0
returns-then-v-ne0 g c = record { im_after = search (rules, visit_on); upper_bound = search rules }

pub returns : goal.returns
returns g c = record { im_after = search (rules, visit_new); upper_bound = search rules }
