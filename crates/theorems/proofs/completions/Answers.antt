use Rattle.theorems.proofs.Defined.{completion_has, completion_closed, completion_least, completion_facts, completion_one, completed_twice, completion_kept}
use Rattle.theorems.proofs.Exists.{completion_listed}
use Rattle.theorems.proofs.Unique.{completion_is_one, completion_unique}
use Rattle.theorems.proofs.completions.Goals as goal

pub returns : goal.returns
returns c = record {
  has = completion_has;
  closed = completion_closed;
  least = completion_least;
  facts = completion_facts;
  is_one = completion_is_one;
  unique = completion_unique;
  one = completion_one;
  twice = completed_twice;
  kept = completion_kept;
  listed = completion_listed;
}
