use Rattle.theorems.proofs.Cases.{used_loan_case, killed_loan_case, moved_then_accessed, moved_not_reached, child_moved, known_subset, unknown_subset, no_placeholder, shared_placeholder_case, mutual_subset, region_nowhere, region_live}
use Rattle.theorems.proofs.cases_stand.Goals as goal

pub returns : goal.returns
returns c = record {
  used_loan = used_loan_case;
  killed_loan = killed_loan_case;
  moved_then_accessed = moved_then_accessed;
  moved_not_reached = moved_not_reached;
  child_moved = child_moved;
  known_subset = known_subset;
  unknown_subset = unknown_subset;
  no_placeholder = no_placeholder;
  shared_placeholder = shared_placeholder_case;
  mutual_subset = mutual_subset;
  region_nowhere = region_nowhere;
  region_live = region_live;
}
