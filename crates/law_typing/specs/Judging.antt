-- That an elaboration answers exactly: what is meant if no rule is broken, and else broken rules.
use Rattle.std.specs.Prelude.{◌≡◌, ◌⊎◌, false, Result, Ok, Err}
use Rattle.std.specs.List.{Contains}
use Rattle.m2_rule.specs.declared.breach.Breach.{Breach}
use Rattle.m2_rule.specs.Breaches.{is_less}
use Rattle.check_scope.specs.Elaborated.{Gathers, every, least}

-- how refusals are read from what is reported
pub record Judges (g : Gathers) : Type 1 where
  -- it is reported
  pub Among : g.Reported → Breach → Type 0
  -- it is looked at in what is reported
  pub Covers : g.Reported → Breach → Type 0

-- if all are gathered: what is reported
abbrev pub all_of_them : Judges every
all_of_them = record { Among = Contains; Covers = Contains }

-- if the least is kept: it alone is reported, and nothing that is looked at is less
abbrev pub the_least : Judges least
the_least = record { Among = λ r f. f ≡ r; Covers = λ r f. is_less f r ≡ false }

module _ (g : Gathers) (j : Judges g) (Elsewhere : Breach → Type 0) where
  -- Exactly the broken rules are reported, beside refusals of declarations elsewhere, which uses of
  -- their names repeat.
  pub record Accounts (Breaks : Breach → Type 0) (r : g.Reported) : Type 0 where
    pub only : (f : Breach) → j.Among r f → Breaks f ⊎ Elsewhere f
    pub each : (f : Breach) → Breaks f → j.Covers r f

  -- What is answered stands for the one thing that is meant, and no rule is broken; or nothing is
  -- meant, and broken rules are reported.
  pub data Answers {A K : Type 0} (Is : A → K → Type 0) (Means : K → Type 0)
      (Breaks : Breach → Type 0) : Result A g.Reported → Type 0 where
    means : (a : A) (k : K) → Is a k → Means k → ((l : K) → Means l → l ≡ k)
        → ((f : Breach) → Breaks f → ⊥) → Answers Is Means Breaks (Ok a)
    refuses : (r : g.Reported) → Accounts Breaks r → ((k : K) → Means k → ⊥)
        → Answers Is Means Breaks (Err r)

  -- What is reported of a part are its broken rules, if there are any.
  pub data Reports (Breaks : Breach → Type 0) : Result (Unit {0}) g.Reported → Type 0 where
    reports_nothing : ((f : Breach) → Breaks f → ⊥) → Reports Breaks (Ok tt)
    reports_broken : (r : g.Reported) → Accounts Breaks r → Reports Breaks (Err r)
