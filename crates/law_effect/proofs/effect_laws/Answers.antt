use Rattle.law_effect.proofs.Follows.{follows, runs, nested_follows, nested_runs}
use Rattle.law_effect.proofs.Whole.{run_only, run_prints, nested_only, nested_prints}
use Rattle.law_effect.proofs.effect_laws.Goals as goal

pub returns-clause-follows : goal.returns-clause-follows
returns-clause-follows c modules fx extra n m a code rest st stack = follows modules fx extra n m a code rest st stack

pub returns-clause-runs : goal.returns-clause-runs
returns-clause-runs c modules fx extra n m f t bytes = runs modules fx extra n m f t bytes

pub returns-clause-only : goal.returns-clause-only
returns-clause-only c modules fx extra m f t bytes j d out o p = run_only modules fx extra m f t bytes j d out o p

pub returns-clause-prints : goal.returns-clause-prints
returns-clause-prints c modules fx extra m f t bytes j = run_prints modules fx extra m f t bytes j

pub returns-clause-nested_follows : goal.returns-clause-nested_follows
returns-clause-nested_follows c modules fx serves extra n d m le a code rest st stack =
    nested_follows modules fx serves extra n d m le a code rest st stack

pub returns-clause-nested_runs : goal.returns-clause-nested_runs
returns-clause-nested_runs c modules fx serves extra n d m f le none t bytes =
    nested_runs modules fx serves extra n d m f le none t bytes

pub returns-clause-nested_only : goal.returns-clause-nested_only
returns-clause-nested_only c modules fx serves extra d m f none t bytes j le end out o p =
    nested_only modules fx serves extra d m f none t bytes j le end out o p

pub returns-clause-nested_prints : goal.returns-clause-nested_prints
returns-clause-nested_prints c modules fx serves extra d m f none t bytes j le =
    nested_prints modules fx serves extra d m f none t bytes j le
