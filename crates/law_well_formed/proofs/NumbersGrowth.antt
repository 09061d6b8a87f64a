-- What one name more does, and one type more.
use Rattle.std.proofs.Common.{◌≡◌, ℕ, Bool, true, false, cond, List, [], ◌∷◌, refl, subst, sym, ◌∙◌, arith}
use Rattle.typed_tree.specs.declared.meaning.Meaning.{Meaning}
use Rattle.typed_tree.specs.declared.meaning.Meaning.TheVariants as meaning
use Rattle.typed_tree.specs.declared.shape.Formal.{Formal}
use Rattle.typed_tree.specs.declared.shape.Made.{Made}
use Rattle.m2_tree.specs.Names.{same_name}
use Rattle.typed_tree.specs.Names.{enter_name}
use Rattle.check_scope.specs.Scopes.{with_known}
use Rattle.check_scope.specs.declared.known.Known.{Known}
use Rattle.check_scope.specs.declared.known.Known.TheVariants.{Later, Ahead, Begun, Headed, Declared}
use Rattle.check_scope.specs.declared.scope.Scope.{Scope}
use Rattle.check_type_expr.specs.Made.{with_shape}
use Rattle.law_well_formed.proofs.Basics.{holds_weaker}
use Rattle.law_well_formed.specs.FormedNumbers.{Lists, lists_of, MeaningNumbered, KnownNumbered, NamesNumbered, IsNumbered, More, Grows}

-- ---- lists that grow

pub more_refl : (a : Lists) → More a a
more_refl a = record { level = refl; home = refl; count = omega arith; variables = λ n t e. e; procedures = λ n t e. e }

pub more_then : {a b c : Lists} → More a b → More b c → More a c
more_then p q = record {
  level = q.level ∙ p.level;
  home = q.home ∙ p.home;
  count = let x = p.count in let y = q.count in omega (arith, x, y);
  variables = λ n t e. q.variables n t (p.variables n t e);
  procedures = λ n t e. q.procedures n t (p.procedures n t e);
}

module _ (fs : List Formal) where
  module _ {a b : Lists} (m : More a b) where
    meaning_more : (x : Meaning) → MeaningNumbered fs a x → MeaningNumbered fs b x
    meaning_more (meaning.Constant v) h = tt
    meaning_more (meaning.Type t n) h = tt
    meaning_more (meaning.Variable v) h = λ e. m.variables v.number v.of (h (e ∙ m.home))
    meaning_more (meaning.Local v) h = record {
      level = h.level ∙ sym m.level;
      there =
          m.variables v.number v.of h.there;
      placed = h.placed;
    }
    meaning_more (meaning.Field f) h = tt
    meaning_more (meaning.Procedure p) h = λ e. m.procedures p.number p.heading (h (e ∙ m.home))
    meaning_more (meaning.LocalProcedure p) h = h ∙ sym m.level
    meaning_more meaning.Ahead h = tt
    meaning_more (meaning.Standard f) h = tt
    meaning_more (meaning.Module k) h = tt

    known_more : {T : Type 0} (k : Known T) → KnownNumbered fs a k → KnownNumbered fs b k
    known_more Later h = tt
    known_more Ahead h = tt
    known_more Begun h = tt
    known_more (Headed r) h = holds_weaker meaning_more h
    known_more (Declared o r) h = holds_weaker meaning_more h

    pub names_more : {T : Type 0} (es : List (List ℕ × Known T)) → NamesNumbered fs a es → NamesNumbered fs b es
    names_more [] h = tt
    names_more (e ∷ es) h = (known_more e.1 h.0, names_more es h.1)

  -- ---- steps

  pub grows_refl : {T : Type 0} (s : Scope T) → Grows fs s s
  grows_refl s = record { outer = refl; more = more_refl (lists_of s); numbered = λ h. h }

  pub grows_then : {T : Type 0} {a b c : Scope T} → Grows fs a b → Grows fs b c → Grows fs a c
  grows_then p q = record {
    outer = q.outer ∙ p.outer;
    more = more_then p.more q.more;
    numbered =
        λ h. q.numbered (p.numbered h);
  }

  -- the names stay, and the lists grow
  pub lists_grow : {T : Type 0} (s s' : Scope T) → s'.outer ≡ s.outer → s'.own ≡ s.own → More (lists_of s) (lists_of s')
      → Grows fs s s'
  lists_grow s s' o e m = record {
    outer = o;
    more = m;
    numbered = λ h. record {
      names = subst (λ (es : List (List ℕ × Known _)). NamesNumbered fs (lists_of s') es) (sym e)
          (names_more m s.own h.names);
      few = let x = h.few in let y = m.count in omega (arith, x, y);
    };
  }

  entered_by : {T : Type 0} (l : Lists) (b : Bool) (k : Known T) (e : List ℕ × Known T)
      (es more : List (List ℕ × Known T)) → KnownNumbered fs l k → NamesNumbered fs l (e ∷ es) → NamesNumbered fs l more
      → NamesNumbered fs l (cond b ((e.0, k) ∷ es) (e ∷ more))
  entered_by l true k e es more p all q = (p, all.1)
  entered_by l false k e es more p all q = (all.0, q)

  pub names_entered : {T : Type 0} (l : Lists) (name : List ℕ) (k : Known T) (es : List (List ℕ × Known T))
      → KnownNumbered fs l k → NamesNumbered fs l es → NamesNumbered fs l (enter_name name k es)
  names_entered l name k [] p all = (p, tt)
  names_entered l name k (e ∷ es) p all =
      entered_by l (same_name name e.0) k e es (enter_name name k es) p all (names_entered l name k es p all.1)

  pub known_grows : {T : Type 0} (s : Scope T) (name : List ℕ) (k : Known T)
      → (IsNumbered fs s → KnownNumbered fs (lists_of s) k) → Grows fs s (with_known name k s)
  known_grows s name k p = record {
    outer = refl;
    more = more_refl (lists_of s);
    numbered = λ h. record { names = names_entered (lists_of s) name k s.own (p h) h.names; few = h.few };
  }

  -- ---- types

  pub shape_grows : {T : Type 0} (s : Scope T) (x : Made) → Grows fs s (with_shape s x)
  shape_grows s x = lists_grow s (with_shape s x) refl refl (more_refl (lists_of s))
