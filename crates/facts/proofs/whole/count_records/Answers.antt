use Rattle.std.proofs.Common.{Ok, ap}
use Rattle.std.proofs.lemmas.Result.{err_from_is_err_and}
use Rattle.facts.proofs.Files.{one_counted, counted_whole, counted_exact, stopped, stopped_not_file}
use Rattle.facts.proofs.whole.count_records.Goals as goal

pub returns-in_err-next_record : goal.returns-in_err-next_record
returns-in_err-next_record c =
    let p = err_from_is_err_and c.from_residual.result c.from_residual.ensures.1 in
    rw (p.1, p.2)
    (let s = stopped _ _ _ _ _ _ _ c.loop-count.invariant.before c.in_err-next_record.ensures.stands in
    record { stands = s; exact = λ rs f e. absurd (stopped_not_file _ _ s rs f e) })

pub loop-count-preserved : goal.loop-count-preserved
loop-count-preserved c =
    one_counted _ _ _ _ _ _ _ _ c.loop-count.invariant c.in_ok-next_record.ensures.stands c.in-Some.is

pub returns : goal.returns
returns c =
    let w = counted_whole _ _ _ _ _ _ _ c.loop-count.invariant c.in_ok-next_record.ensures.stands c.in_default.is in
    record { stands = w; exact = λ rs f e. ap Ok (counted_exact _ _ w rs f e) }
