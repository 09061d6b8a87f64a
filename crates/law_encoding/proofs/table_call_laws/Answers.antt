use Rattle.law_encoding.proofs.TableSteps.{step_calls}
use Rattle.law_encoding.proofs.table_call_laws.Goals as goal

pub returns : goal.returns
returns c = λ m x. step_calls m x
