use Rattle.wasm_known.proofs.Check.{check_returns, bounds_return}
use Rattle.wasm_known.proofs.Copy.{copy_returns}
use Rattle.wasm_known.proofs.Divide.{div_returns, mod_returns}
use Rattle.wasm_known.proofs.Fill.{fill_returns}
use Rattle.wasm_known.proofs.known_laws.Goals as goal

pub returns-clause-check_returns : goal.returns-clause-check_returns
returns-clause-check_returns c modules st now callers g own f index at is v lo hi k below rest low high =
    check_returns modules st now callers g own f index at is v lo hi k below rest low high

pub returns-clause-bounds_return : goal.returns-clause-bounds_return
returns-clause-bounds_return c modules st now callers g own f index at is v lo hi k below rest low high =
    bounds_return modules st now callers g own f index at is v lo hi k below rest low high

pub returns-clause-fill_returns : goal.returns-clause-fill_returns
returns-clause-fill_returns c modules st now callers g own f index place memory at is has to k below rest h long =
    fill_returns modules st now callers g own f index place memory at is has to k below rest h long

pub returns-clause-copy_returns : goal.returns-clause-copy_returns
returns-clause-copy_returns c modules st now callers g own f index place memory at is has to from k below rest h r small
    long =
    copy_returns modules st now callers g own f index place memory at is has to from k below rest h r small long

pub returns-clause-div_returns : goal.returns-clause-div_returns
returns-clause-div_returns c modules st now callers g own f index at is x y q r below rest has e h =
    div_returns modules st now callers g own f index at is x y q r below rest has e h

pub returns-clause-mod_returns : goal.returns-clause-mod_returns
returns-clause-mod_returns c modules st now callers g own f index at is x y r below rest has h =
    mod_returns modules st now callers g own f index at is x y r below rest has h
