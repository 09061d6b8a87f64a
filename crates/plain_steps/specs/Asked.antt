-- Whether a call fits into what is free.
use Rattle.std.specs.Prelude.{◌≡◌, ℕ, ◌-◌, ◌<◌, ◌≤◌, map}
use Rattle.def_meaning.specs.Calls.{storage_need}
use Rattle.plain_steps.specs.declared.entering.Request.{Request}
use Rattle.plain_values.specs.Surroundings.{argument_sent}

unfoldable pub need_of : Request → ℕ
need_of q =
    storage_need q.callee.home.body.now.types q.callee.routine.now (map argument_sent q.passed)

pub record IsTooSmall (q : Request) : Type 0 where
  pub less : q.left < need_of q

pub record HasRoom (q : Request) (rest : ℕ) : Type 0 where
  pub fits : need_of q ≤ q.left
  pub left_over : rest ≡ q.left - need_of q
