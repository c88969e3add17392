use Rattle.std.proofs.lemmas.Result.{err_from_is_err_and}
use Rattle.facts.proofs.Files.{one_more, read_whole, read_exact, stopped, stopped_not_file}
use Rattle.facts.proofs.whole.read_all.Goals as goal

pub returns-in_err-record : goal.returns-in_err-record
returns-in_err-record c =
    let p = err_from_is_err_and c.from_residual.result c.from_residual.ensures.1 in
    rw (p.1, p.2)
    (let s = stopped _ _ _ _ _ _ _ c.loop-found.invariant c.in_err-record.ensures.stands in
    record { stands = s; exact = λ rs f e. absurd (stopped_not_file _ _ s rs f e) })

pub loop-found-preserved : goal.loop-found-preserved
loop-found-preserved c =
    one_more _ _ _ _ _ _ _ _ _ c.loop-found.invariant c.in_ok-record.ensures.stands c.in-Some.is c.in_ok-push.ensures.items

pub returns : goal.returns
returns c =
    let w = read_whole _ _ _ _ _ _ _ c.loop-found.invariant c.in_ok-record.ensures.stands c.in_default.is in
    record { stands = w; exact = λ rs f e. read_exact _ _ w rs f e }
