-- Where a body begins: what its imports leave as it was, and the procedures of its definition that await their
-- headings.
use Rattle.std.proofs.Common.{◌≡◌, ℕ, ◌==◌, Bool, true, false, ◌||◌, cond, List, [], ◌∷◌, length, Option, Some, None, Ok, refl, sym, ap, subst, ◌∙◌}
use Rattle.std.specs.Prelude.{slice_get}
use Rattle.std.specs.List.{fold}
use Rattle.m2_tree.specs.declared.decl.Import.{Import}
use Rattle.typed_tree.specs.declared.meaning.Meaning.{Meaning}
use Rattle.typed_tree.specs.declared.meaning.Meaning.TheVariants as meaning
use Rattle.typed_tree.specs.declared.meaning.Procedure.{Procedure}
use Rattle.typed_tree.specs.declared.types.TypeNo.{TypeNo}
use Rattle.m2_tree.specs.Names.{same_name}
use Rattle.typed_tree.specs.Names.{find_name, enter_name}
use Rattle.check_scope.specs.Elaborated.{Gathers}
use Rattle.check_scope.specs.Scopes.{State, with_known}
use Rattle.check_scope.specs.declared.known.Origin.TheVariants.{Here, Module, Export}
use Rattle.check_scope.specs.declared.known.Known.{Known}
use Rattle.check_scope.specs.declared.known.Known.TheVariants.{Declared}
use Rattle.check_scope.specs.declared.scope.Block.{Block as Around}
use Rattle.check_scope.specs.declared.scope.Scope.{Scope}
use Rattle.check_definition.specs.Importing.{with_import}
use Rattle.check_definition.specs.Predeclared.{predeclared_block}
use Rattle.check_block.specs.declared.heading.Standing.TheVariants.{Awaited, Taken}
use Rattle.check_block.specs.Headings.{standing_of, standing_known, name_standing}
use Rattle.check_body.specs.Own.{with_own_name, own_names, exported_headings}
use Rattle.law_folds.proofs.ImportSteps.{KeepsImports, imports_keep}
use Rattle.law_well_formed.proofs.ImportsLists.{same_is}
use Rattle.law_well_formed.proofs.Names.{found_self}
use Rattle.law_well_formed.proofs.HeadingsLists.{found_other}
use Rattle.law_well_formed.specs.FormedTables.{AreExports, AreNumberedBy}
use Rattle.law_well_formed.proofs.Order.{has, keys, Distinct}
use Rattle.law_well_formed.proofs.ModulesBegins.{own_await}
use Rattle.law_programs.specs.TypingBodies.{AwaitsOwn, AwaitsApart, ModuleBegins}
use Rattle.law_programs.specs.TypingTables.{ProceduresApart}

-- ---- what imports leave as it was

pub record Stays {T : Type 0} (s s' : Scope T) : Type 0 where
  pub level : s'.level ≡ s.level
  pub outer : s'.outer ≡ s.outer
  pub withs : s'.withs ≡ s.withs
  pub home : s'.types.home ≡ s.types.home
  pub procedures : s'.procedures ≡ s.procedures
  pub awaited : (name : List ℕ) (p : Procedure) → name_standing (find_name name s'.own) ≡ Awaited p
      → name_standing (find_name name s.own) ≡ Awaited p

module _ {T : Type 0} where
  same_stays : (s : Scope T) → Stays s s
  same_stays s = record {
    level = refl;
    outer = refl;
    withs = refl;
    home = refl;
    procedures = refl;
    awaited =
        λ name p e. e;
  }

  infixl 10 ◌⨾◌
  ◌⨾◌ : {a b c : Scope T} → Stays b c → Stays a b → Stays a c
  ◌⨾◌ q p = record {
    level = q.level ∙ p.level;
    outer = q.outer ∙ p.outer;
    withs = q.withs ∙ p.withs;
    home = q.home ∙ p.home;
    procedures = q.procedures ∙ p.procedures;
    awaited = λ name x e. p.awaited name x (q.awaited name x e);
  }

  -- a name that is taken is entered
  taken_awaits : (y name : List ℕ) (k : Known T) (own : List (List ℕ × Known T)) (p : Procedure)
      → standing_known k ≡ Taken → name_standing (find_name y (enter_name name k own)) ≡ Awaited p
      → name_standing (find_name y own) ≡ Awaited p
  taken_awaits y name k own p t e = by (same_name y name) refl where
    by : (b : Bool) → same_name y name ≡ b → name_standing (find_name y own) ≡ Awaited p
    by true q =
        absurd (let z : Taken ≡ Awaited p = sym
        (ap (λ (o : Option (Known T)). name_standing o) (found_self name k own) ∙ t)
        ∙ subst (λ (n : List ℕ). name_standing (find_name n (enter_name name k own)) ≡ Awaited p) (same_is y name q)
        e in cc)
    by false q = ap (λ (o : Option (Known T)). name_standing o) (sym (found_other name k own y q)) ∙ e

  known_stays : (name : List ℕ) (k : Known T) (s : Scope T) → standing_known k ≡ Taken → Stays s (with_known name k s)
  known_stays name k s t = record {
    level = refl;
    outer = refl;
    withs = refl;
    home = refl;
    procedures = refl;
    awaited =
        λ y p e. taken_awaits y name k s.own p t e;
  }

imports : (g : Gathers) → KeepsImports g Stays
imports g = record {
  order = record { same = same_stays; next = λ a b c p q. q ⨾ p };
  modules = λ s name n e. known_stays name (Declared (Module n) (Ok (meaning.Module n))) s refl;
  exports = λ s name n m e. known_stays name (Declared (Export n) (Ok m)) s refl;
}

pub import_stays : (g : Gathers) (modules : List (List ℕ × ℕ)) (is : List Import) (st : State (Unit {0}) g.Reported)
    → Stays st.0 (fold (with_import g modules) st is).0
import_stays g = imports_keep g (imports g)

-- ---- procedures of the definition

found_none : (name : List ℕ) (es : List (List ℕ × Meaning)) → has name (keys es) ≡ false → find_name name es ≡ None
found_none name [] h = refl
found_none name (e ∷ es) h = by (same_name name e.0) (has name (keys es)) h (found_none name es) where
  by : (b c : Bool) → (b || c) ≡ false → (c ≡ false → find_name name es ≡ None)
      → cond b (Some e.1) (find_name name es) ≡ None
  by true c h f = absurd cc
  by false c h f = f h

meaning_awaited : (m : Meaning) (p : Procedure) → standing_of m ≡ Awaited p → m ≡ meaning.Procedure p
meaning_awaited (meaning.Procedure q) p e = cc
meaning_awaited (meaning.Constant v) p e = absurd cc
meaning_awaited (meaning.Type t n) p e = absurd cc
meaning_awaited (meaning.Variable v) p e = absurd cc
meaning_awaited (meaning.Local v) p e = absurd cc
meaning_awaited (meaning.Field f) p e = absurd cc
meaning_awaited (meaning.LocalProcedure q) p e = absurd cc
meaning_awaited meaning.Ahead p e = absurd cc
meaning_awaited (meaning.Standard f) p e = absurd cc
meaning_awaited (meaning.Module k) p e = absurd cc

module _ (T : Type 0) where
  abbrev own_or : Option Meaning → Option (Known T) → Option (Known T)
  own_or (Some m) o = Some (Declared Here (Ok m))
  own_or None o = o

  own_found : (es : List (List ℕ × Meaning)) (so : List (List ℕ × Known T)) (a : List ℕ) → Distinct es
      → find_name a (fold with_own_name so es) ≡ own_or (find_name a es) (find_name a so)
  own_found [] so a d = refl
  own_found (e ∷ es) so a d = own_found es (with_own_name so e) a d.1 ∙ by (same_name a e.0) refl where
    by : (b : Bool) → same_name a e.0 ≡ b →
        own_or (find_name a es) (find_name a (enter_name e.0 (Declared Here (Ok e.1)) so))
        ≡ own_or (cond b (Some e.1) (find_name a es)) (find_name a so)
    by true q =
        ap (λ (o : Option Meaning). own_or o (find_name a (enter_name e.0 (Declared Here (Ok e.1)) so)))
        (found_none a es (subst (λ (n : List ℕ). has n (keys es) ≡ false) (sym (same_is a e.0 q)) d.0))
        ∙ ap (λ (n : List ℕ). find_name n (enter_name e.0 (Declared Here (Ok e.1)) so)) (same_is a e.0 q)
        ∙ found_self e.0 (Declared Here (Ok e.1)) so
    by false q = ap (λ (o : Option (Known T)). own_or (find_name a es) o)
        (found_other e.0 (Declared Here (Ok e.1)) so a q)

  awaited_or : (o : Option Meaning) (p : Procedure) → name_standing (own_or o None) ≡ Awaited p
      → o ≡ Some (meaning.Procedure p)
  awaited_or (Some m) p e = ap Some (meaning_awaited m p e)
  awaited_or None p e = absurd cc

  awaited_own : (es : List (List ℕ × Meaning)) (a : List ℕ) (p : Procedure) → Distinct es
      → name_standing (find_name a (own_names {T = T} es)) ≡ Awaited p → find_name a es ≡ Some (meaning.Procedure p)
  awaited_own es a p d e = awaited_or (find_name a es) p
      (sym (ap (λ (o : Option (Known T)). name_standing o) (own_found es [] a d)) ∙ e)

-- what is known where a body begins, by what its definition exports
pub record Starts {T : Type 0} (s : Scope T) (es : List (List ℕ × Meaning)) : Type 0 where
  pub level : s.level ≡ 0
  pub outer : s.outer ≡ predeclared_block ∷ []
  pub withs : s.withs ≡ []
  pub own : s.own ≡ own_names es
  pub procedures : s.procedures ≡ exported_headings es
  pub exports : AreExports s.types.home es
  pub numbers : AreNumberedBy (exported_headings es) es
  pub once : Distinct es
  pub apart : ProceduresApart es

module _ {T : Type 0} (s : Scope T) (es : List (List ℕ × Meaning)) (h : Starts s es) where
  start_awaits : AwaitsOwn s
  start_awaits name p e =
      let k = own_await T s.types.home (exported_headings es) es h.exports h.numbers name p
      (sym (ap (λ (ns : List (List ℕ × Known T)). name_standing (find_name name ns)) h.own) ∙ e) in
      (k.0, ap (λ (hs : List TypeNo). slice_get hs p.number) h.procedures ∙ k.1)

  start_found : (a : List ℕ) (p : Procedure) → name_standing (find_name a s.own) ≡ Awaited p
      → find_name a es ≡ Some (meaning.Procedure p)
  start_found a p e = awaited_own T es a p h.once
      (sym (ap (λ (ns : List (List ℕ × Known T)). name_standing (find_name a ns)) h.own) ∙ e)

  start_apart : AwaitsApart s
  start_apart a b p q e f n = h.apart a b p q (start_found a p e) (start_found b q f) n

pub module_begins : (g : Gathers) (modules : List (List ℕ × ℕ)) (is : List Import) (s : Scope g.Reported)
    (es : List (List ℕ × Meaning)) → Starts s es → ModuleBegins (fold (with_import g modules) (s, Ok tt) is).0
module_begins g modules is s es h =
    let s' : Scope g.Reported = (fold (with_import g modules) (s, Ok tt) is).0 in
    let k : Stays s s' = import_stays g modules is (s, Ok tt) in
    record {
      level = ap (λ (n : ℕ). n == 0) (k.level ∙ h.level);
      single = ap (λ (bs : List (Around g.Reported)). length bs) (k.outer ∙ h.outer);
      withs = k.withs ∙ h.withs;
      awaits = λ name p e.
          let a = start_awaits s es h name p (k.awaited name p e) in
          (a.0 ∙ sym k.home, ap (λ (hs : List TypeNo). slice_get hs p.number) k.procedures ∙ a.1);
      apart = λ a b p q e f n. start_apart s es h a b p q (k.awaited a p e) (k.awaited b q f) n;
    }
