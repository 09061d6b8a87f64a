-- What a part of a module means, or which rules are broken in it.
use Rattle.std.specs.Prelude.{Bool, true, false, cond, List, [], ◌∷◌, ◌++◌, Result, Ok, Err}
use Rattle.m2_tree.specs.declared.pos.Pos.{Pos}
use Rattle.m2_rule.specs.declared.rule.Rule.{Rule}
use Rattle.m2_rule.specs.declared.rule.Rule.TheVariants as rule
use Rattle.m2_rule.specs.Breaches.{breach, lesser}
use Rattle.m2_rule.specs.declared.breach.Breach.{Breach}
use Rattle.check_scope.specs.declared.meaningless.Meaningless.{Meaningless}
use Rattle.check_scope.specs.declared.meaningless.Meaningless.TheVariants.{Broken, Headless}

-- how broken rules are gathered
pub record Gathers : Type 1 where
  pub Reported : Type 0
  pub one : Breach → Reported
  pub join : Reported → Reported → Reported

-- all of them
abbrev pub every : Gathers
every = record { Reported = List Breach; one = λ f. f ∷ []; join = λ fs gs. fs ++ gs }

-- the least of them
abbrev pub least : Gathers
least = record { Reported = Breach; one = λ f. f; join = lesser }

-- A part means something, or rules are broken in it. The use of a name in whose declaration rules
-- are broken repeats these.
abbrev pub report : (g : Gathers) {A : Type 0} → Pos → Rule → Result A g.Reported
report g pos broken = Err (g.one (breach pos broken))

abbrev pub reported_where : (g : Gathers) {A : Type 0} → Bool → Pos → Rule → Result A g.Reported
    → Result A g.Reported
reported_where g holds pos broken otherwise = cond holds (report g pos broken) otherwise

-- what looks at a meaning is silent if there is none
infixl 10 ◌▷◌
abbrev pub ◌▷◌ : {A B T : Type 0} → Result A T → (A → Result B T) → Result B T
(Ok x) ▷ f = f x
(Err e) ▷ f = Err e

-- two parts that stand beside one another
abbrev pub both : (g : Gathers) {A B : Type 0} → Result A g.Reported → Result B g.Reported
    → Result (A × B) g.Reported
both g (Ok a) (Ok b) = Ok (a, b)
both g (Ok a) (Err e) = Err e
both g (Err e) (Ok b) = Err e
both g (Err e) (Err f) = Err (g.join e f)

-- the same, if only what is reported counts
abbrev pub beside : (g : Gathers) → Result (Unit {0}) g.Reported → Result (Unit {0}) g.Reported
    → Result (Unit {0}) g.Reported
beside g a b = both g a b ▷ λ p. Ok tt

-- ---- what stands behind a part is looked at, also if the part has no meaning

abbrev pub refusal_beside : (g : Gathers) {A : Type 0} → g.Reported → Result (Unit {0}) g.Reported
    → Result A g.Reported
refusal_beside g e (Ok fine) = Err e
refusal_beside g e (Err f) = Err (g.join e f)

abbrev pub reported_beside : (g : Gathers) {A : Type 0} → Pos → Rule → Result (Unit {0}) g.Reported
    → Result A g.Reported
reported_beside g pos broken rest =
    refusal_beside g (g.one (breach pos broken)) rest

abbrev pub ahead : (g : Gathers) {A B : Type 0} → Result A g.Reported → Result (Unit {0}) g.Reported
    → (A → Result B g.Reported) → Result B g.Reported
ahead g (Ok x) rest f = f x
ahead g (Err e) rest f = refusal_beside g e rest

-- ---- names of procedures in whose headings rules are broken

-- a rule that looks at what sort of thing a name is speaks of these procedures too
abbrev pub of_sort : (g : Gathers) {A : Type 0} → Pos → Rule → Result A (Meaningless g.Reported)
    → Result A g.Reported
of_sort g pos broken (Ok x) = Ok x
of_sort g pos broken (Err (Broken e)) = Err e
of_sort g pos broken (Err (Headless nested e)) = report g pos broken

-- if the heading counts, its own refusals are repeated
abbrev pub of_heading : {A T : Type 0} → Result A (Meaningless T) → Result A T
of_heading (Ok x) = Ok x
of_heading (Err (Broken e)) = Err e
of_heading (Err (Headless nested e)) = Err e

-- what is none of these procedures
abbrev pub plain : {A T : Type 0} → Result A T → Result A (Meaningless T)
plain (Ok x) = Ok x
plain (Err e) = Err (Broken e)

-- a procedure in a procedure is no value, whatever its heading
abbrev pub of_value : (g : Gathers) {A : Type 0} → Pos → Result A (Meaningless g.Reported)
    → Result A g.Reported
of_value g pos (Ok x) = Ok x
of_value g pos (Err (Broken e)) = Err e
of_value g pos (Err (Headless true e)) = report g pos rule.NoProcedureValue
of_value g pos (Err (Headless false e)) = Err e

-- the same of a rule that looks at what sort of value it is
abbrev pub of_sort_of_value : (g : Gathers) {A : Type 0} → Pos → Rule
    → Result A (Meaningless g.Reported) → Result A g.Reported
of_sort_of_value g pos broken (Ok x) = Ok x
of_sort_of_value g pos broken (Err (Broken e)) = Err e
of_sort_of_value g pos broken (Err (Headless true e)) = report g pos rule.NoProcedureValue
of_sort_of_value g pos broken (Err (Headless false e)) = report g pos broken
