-- What one name more does, and one type more.
use Rattle.std.proofs.Common.{◌≡◌, ℕ, ◌==◌, Bool, true, false, cond, List, [], ◌∷◌, ◌++◌, Option, Some, None, refl, sym, ap, ◌∙◌}
use Rattle.std.specs.Prelude.{slice_get}
use Rattle.typed_tree.specs.declared.known_types.Types.{Types}
use Rattle.typed_tree.specs.declared.shape.Made.{Made}
use Rattle.typed_tree.specs.declared.typed_module.TypedModule.{TypedModule}
use Rattle.typed_tree.specs.declared.types.Home.{Home}
use Rattle.typed_tree.specs.declared.types.Home.TheVariants as home
use Rattle.typed_tree.specs.declared.types.TypeNo.{TypeNo}
use Rattle.typed_tree.specs.Known.{made_from, made_at}
use Rattle.m2_tree.specs.Names.{same_name}
use Rattle.typed_tree.specs.Names.{find_name, enter_name}
use Rattle.check_scope.specs.declared.known.Known.{Known}
use Rattle.check_scope.specs.declared.known.Known.TheVariants.{Later, Ahead, Begun, Headed, Declared}
use Rattle.check_scope.specs.declared.scope.Scope.{Scope}
use Rattle.check_scope.specs.Scopes.{is_free, with_known, is_begun}
use Rattle.check_type_expr.specs.Made.{with_shape}
use Rattle.law_well_formed.specs.FormedScopes.{holds_of, is_awaiting, FormedKnown, AreFormedNames, Leads}
use Rattle.law_well_formed.proofs.Names.{get_more, kept_entered, none_entered, same_entered}

-- a heading was met
abbrev pub is_headed : {T : Type 0} → Known T → Bool
is_headed Later = false
is_headed Ahead = false
is_headed Begun = false
is_headed (Headed m) = true
is_headed (Declared o m) = false

pub free_unheaded : {T : Type 0} (o : Option (Known T)) → is_free o ≡ true → holds_of is_headed o ≡ false
free_unheaded None e = refl
free_unheaded (Some Later) e = refl
free_unheaded (Some Ahead) e = refl
free_unheaded (Some Begun) e = refl
free_unheaded (Some (Headed m)) e = absurd cc
free_unheaded (Some (Declared o m)) e = refl

pub begun_unheaded : {T : Type 0} (o : Option (Known T)) → is_begun o ≡ true → holds_of is_headed o ≡ false
begun_unheaded None e = refl
begun_unheaded (Some Later) e = refl
begun_unheaded (Some Ahead) e = refl
begun_unheaded (Some Begun) e = refl
begun_unheaded (Some (Headed m)) e = absurd cc
begun_unheaded (Some (Declared o m)) e = refl

-- ---- one type more

made_more : (types : Types) (x : Made) (t : TypeNo) (y : Made) → made_at types t ≡ Some y
    → made_at (record types { own = types.own ++ x ∷ [] }) t ≡ Some y
made_more types x t y e = from t.home t.number e where
  here : (b : Bool) (n : ℕ) (other : Option Made) → cond b (slice_get types.own n) other ≡ Some y
      → cond b (slice_get (types.own ++ x ∷ []) n) other ≡ Some y
  here true n other e = get_more types.own (x ∷ []) n y e
  here false n other e = e

  from : (h : Home) (n : ℕ) → made_from types h n ≡ Some y
      → made_from (record types { own = types.own ++ x ∷ [] }) h n ≡ Some y
  from home.Predeclared n e = e
  from (home.Module k) n e = here (k == types.home) n _ e

module _ (m : TypedModule) (opens : ℕ → Bool) where
  -- ---- steps

  pub leads_refl : {T : Type 0} (s : Scope T) → Leads m opens s s
  leads_refl s = record {
    tables = refl;
    outer = refl;
    level = refl;
    withs = refl;
    home = refl;
    types = λ t x e. e;
    procedures = λ n t e. e;
    heads = λ name x e. e;
    awaits = λ name e. e;
    awaited = λ name e. refl;
    formed = λ e p. p;
  }

  pub leads_then : {T : Type 0} {a b c : Scope T} → Leads m opens a b → Leads m opens b c → Leads m opens a c
  leads_then p q = record {
    tables = q.tables ∙ p.tables;
    outer = q.outer ∙ p.outer;
    level = q.level ∙ p.level;
    withs = q.withs ∙ p.withs;
    home = q.home ∙ p.home;
    types = λ t x e. q.types t x (p.types t x e);
    procedures = λ n t e. q.procedures n t (p.procedures n t e);
    heads = λ name x e. q.heads name x (p.heads name x e);
    awaits = λ name e. q.awaits name (p.awaits name e);
    awaited = λ name e. let k = q.awaited name e in
        k ∙ p.awaited name (ap (λ (o : Option (Known _)). holds_of is_awaiting o) (sym k) ∙ e);
    formed = λ e r. q.formed (p.home ∙ e) (p.formed e r);
  }

  names_by : {T : Type 0} (b : Bool) (k : Known T) (e : List ℕ × Known T) (es more : List (List ℕ × Known T))
      → FormedKnown m opens k → AreFormedNames m opens (e ∷ es) → AreFormedNames m opens more
      → AreFormedNames m opens (cond b ((e.0, k) ∷ es) (e ∷ more))
  names_by true k e es more p all q = (p, all.1)
  names_by false k e es more p all q = (all.0, q)

  pub names_more : {T : Type 0} (name : List ℕ) (k : Known T) (es : List (List ℕ × Known T)) → FormedKnown m opens k
      → AreFormedNames m opens es → AreFormedNames m opens (enter_name name k es)
  names_more name k [] p all = (p, tt)
  names_more name k (e ∷ es) p all = names_by (same_name name e.0) k e es (enter_name name k es) p all
      (names_more name k es p all.1)

  pub known_leads : {T : Type 0} (s : Scope T) (name : List ℕ) (k : Known T)
      → holds_of is_headed (find_name name s.own) ≡ false → is_awaiting k ≡ false
      → (s.types.home ≡ m.types.home → FormedKnown m opens k) → Leads m opens s (with_known name k s)
  known_leads s name k e a p = record {
    tables = refl;
    outer = refl;
    level = refl;
    withs = refl;
    home = refl;
    types = λ t x q. q;
    procedures = λ n t q. q;
    heads = λ other x q. kept_entered is_headed name k s.own other (Headed x) refl e q;
    awaits = λ other q. none_entered is_awaiting name k s.own other a q;
    awaited = λ other q. same_entered is_awaiting name k s.own other a q;
    formed = λ h q. names_more name k s.own (p h) q;
  }

  -- ---- types

  pub shape_leads : {T : Type 0} (s : Scope T) (x : Made) → Leads m opens s (with_shape s x)
  shape_leads s x = record {
    tables = refl;
    outer = refl;
    level = refl;
    withs = refl;
    home = refl;
    types = λ t y e. made_more s.types x t y e;
    procedures = λ n t e. e;
    heads = λ name y e. e;
    awaits = λ name e. e;
    awaited = λ name e. refl;
    formed = λ e p. p;
  }
