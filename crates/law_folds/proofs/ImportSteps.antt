-- What an imported name keeps, all imports keep.
use Rattle.std.proofs.Common.{◌≡◌, ℕ, zero, suc, true, List, [], ◌∷◌, take, drop, Option, Some, None, Result, Ok, Err, ◌⊎◌, inl, inr, refl, sym, ap, subst, ◌∙◌}
use Rattle.std.specs.Prelude.{cond, slice_get}
use Rattle.std.specs.List.{fold}
use Rattle.m2_rule.specs.declared.rule.Rule.TheVariants as rule
use Rattle.m2_tree.specs.declared.pos.Pos.{Pos}
use Rattle.m2_tree.specs.declared.name.Ident.{Ident}
use Rattle.m2_tree.specs.declared.decl.Import.{Import}
use Rattle.typed_tree.specs.declared.meaning.Meaning.{Meaning}
use Rattle.typed_tree.specs.declared.meaning.Meaning.TheVariants as meaning
use Rattle.typed_tree.specs.declared.table.Table.{Table}
use Rattle.typed_tree.specs.Names.{find_name, place_of}
use Rattle.check_scope.specs.Elaborated.{Gathers, report}
use Rattle.check_scope.specs.Scopes.{State, is_free, with_known, is_again, import_name}
use Rattle.check_scope.specs.declared.known.Known.TheVariants.{Declared}
use Rattle.check_scope.specs.declared.known.Origin.{Origin}
use Rattle.check_scope.specs.declared.known.Origin.TheVariants.{Module, Export}
use Rattle.check_scope.specs.declared.scope.Scope.{Scope}
use Rattle.check_definition.specs.Importing.{module_named, with_module_as, with_module_name, with_entry, brings_in, reported_of_taken, unless_taken, from_place, with_from, exports_of, from_module, with_imports, with_import}
use Rattle.law_folds.proofs.Orders.{IsOrder, either, steps}

abbrev St : Gathers → Type 0
St g = State (Unit {0}) g.Reported

module _ (g : Gathers) {R : Scope g.Reported → Scope g.Reported → Type 0} (o : IsOrder R) where
  import_by : (s : Scope g.Reported) (at : Pos) (name : List ℕ) (from : Origin) (m : Result Meaning g.Reported)
      → (is_free (find_name name s.own) ≡ true → R s (with_known name (Declared from m) s))
      → R s (import_name g s at name from m).0
  import_by s at name from m h =
      let new : State (Unit {0}) g.Reported = (with_known name (Declared from m) s, Ok tt) in
      let old : State (Unit {0}) g.Reported = (s, report g at rule.DeclaredTwice) in
      either o s (is_again (find_name name s.own) from) (s, Ok tt) (cond (is_free (find_name name s.own)) new old)
      (λ e. o.same s) (either o s (is_free (find_name name s.own)) new old h (o.same s))

pub record KeepsImports (g : Gathers) (R : Scope g.Reported → Scope g.Reported → Type 0) : Type 0 where
  pub order : IsOrder R
  pub modules : (s : Scope g.Reported) (name : List ℕ) (n : ℕ) → is_free (find_name name s.own) ≡ true
      → R s (with_known name (Declared (Module n) (Ok (meaning.Module n))) s)
  pub exports : (s : Scope g.Reported) (name : List ℕ) (n : ℕ) (m : Meaning) → is_free (find_name name s.own) ≡ true
      → R s (with_known name (Declared (Export n) (Ok m)) s)

module _ (g : Gathers) {R : Scope g.Reported → Scope g.Reported → Type 0} (k : KeepsImports g R) where
  abbrev state : St g → Scope g.Reported
  state st = st.0

  module_keeps : (s : Scope g.Reported) (name : Ident) (r : Result ℕ g.Reported) → R s (with_module_as g s name r).0
  module_keeps s name (Ok n) =
      import_by g k.order s name.pos name.name (Module n) (Ok (meaning.Module n)) (k.modules s name.name n)
  module_keeps s name (Err e) = k.order.same s

  module_name_keeps : (modules : List (List ℕ × ℕ)) (st : St g) (name : Ident)
      → R st.0 (with_module_name g modules st name).0
  module_name_keeps modules st name = module_keeps st.0 name (module_named g modules name)

  entry_keeps : (at : Pos) (n : ℕ) (st : St g) (e : List ℕ × Meaning) → R st.0 (with_entry g at n st e).0
  entry_keeps at n st e = import_by g k.order st.0 at e.0 (Export n) (Ok e.1) (k.exports st.0 e.0 n e.1)

  taken_keeps : (s : Scope g.Reported) (at : Pos) (n : ℕ) (es : List (List ℕ × Meaning)) (i : ℕ)
      (o : Option (Result (Unit {0}) g.Reported)) → R s (unless_taken g s at n es i o).0
  taken_keeps s at n es i (Some j) = k.order.same s
  taken_keeps s at n es i None =
      steps k.order state (with_entry g at n) (entry_keeps at n) (take (brings_in (slice_get es i)) (drop i es))
      (s, Ok tt)

  place_keeps : (s : Scope g.Reported) (name : Ident) (n : ℕ) (es : List (List ℕ × Meaning)) (o : Option ℕ)
      → R s (from_place g s name n es o).0
  place_keeps s name n es None = k.order.same s
  place_keeps s name n es (Some i) =
      taken_keeps s name.pos n es i (reported_of_taken g name.pos n (find_name name.name s.own))

  from_keeps : (n : ℕ) (es : List (List ℕ × Meaning)) (st : St g) (name : Ident) → R st.0 (with_from g n es st name).0
  from_keeps n es st name = place_keeps st.0 name n es (place_of name.name es)

  from_module_keeps : (r : Result ℕ g.Reported) (st : St g) (names : List Ident) → R st.0 (from_module g r st names).0
  from_module_keeps (Ok n) st names =
      let es : List (List ℕ × Meaning) = exports_of (slice_get st.0.tables n) in
      steps k.order state (with_from g n es) (from_keeps n es) names st
  from_module_keeps (Err e) st names = k.order.same st.0

  import_keeps : (modules : List (List ℕ × ℕ)) (st : St g) (from : Option Ident) (names : List Ident)
      → R st.0 (with_imports g modules st from names).0
  import_keeps modules st None names =
      steps k.order state (with_module_name g modules) (module_name_keeps modules) names st
  import_keeps modules st (Some m) names = from_module_keeps (module_named g modules m) st names

  pub imports_keep : (modules : List (List ℕ × ℕ)) (is : List Import) (st : St g)
      → R st.0 (fold (with_import g modules) st is).0
  imports_keep modules is st =
      steps k.order state (with_import g modules) (λ st i. import_keeps modules st i.from i.names) is st

-- ---- the same where something is known of what the tables of the scope export

abbrev pub Among : {A : Type 0} → A → List A → Type 0
Among x [] = ⊥
Among x (y ∷ ys) = (x ≡ y) ⊎ Among x ys

among_take : {A : Type 0} (x : A) (n : ℕ) (xs : List A) → Among x (take n xs) → Among x xs
among_take x zero xs a = absurd a
among_take x (suc n) [] a = a
among_take x (suc n) (y ∷ xs) a = elim a [ inl e ↦ inl e | inr b ↦ inr (among_take x n xs b) ]

among_drop : {A : Type 0} (x : A) (n : ℕ) (xs : List A) → Among x (drop n xs) → Among x xs
among_drop x zero xs a = a
among_drop x (suc n) [] a = a
among_drop x (suc n) (y ∷ xs) a = inr (among_drop x n xs a)

abbrev pub IsExported : List Table → ℕ → List ℕ × Meaning → Type 0
IsExported tables n e = Among e (exports_of (slice_get tables n))

pub record KeepsExports (g : Gathers) (R : Scope g.Reported → Scope g.Reported → Type 0) : Type 0 where
  pub order : IsOrder R
  pub modules : (s : Scope g.Reported) (name : List ℕ) (n : ℕ) → is_free (find_name name s.own) ≡ true
      → R s (with_known name (Declared (Module n) (Ok (meaning.Module n))) s)
  pub exports : (s : Scope g.Reported) (e : List ℕ × Meaning) (n : ℕ) → is_free (find_name e.0 s.own) ≡ true
      → IsExported s.tables n e → R s (with_known e.0 (Declared (Export n) (Ok e.1)) s)

module _ (g : Gathers) {R : Scope g.Reported → Scope g.Reported → Type 0} (k : KeepsExports g R) where
  tables : KeepsImports g (λ s t. t.tables ≡ s.tables)
  tables = record {
    order = record { same = λ s. refl; next = λ a b c p q. q ∙ p };
    modules = λ s name n e. refl;
    exports = λ s name n m e. refl;
  }

  exported : (n : ℕ) (es : List (List ℕ × Meaning)) (s t : Scope g.Reported) → t.tables ≡ s.tables
      → es ≡ exports_of (slice_get s.tables n) → es ≡ exports_of (slice_get t.tables n)
  exported n es s t e p = p ∙ ap (λ ts. exports_of (slice_get ts n)) (sym e)

  entries_bring : (at : Pos) (n : ℕ) (es xs : List (List ℕ × Meaning))
      → ((e : List ℕ × Meaning) → Among e xs → Among e es)
      → (st : St g) → es ≡ exports_of (slice_get st.0.tables n) → R st.0 (fold (with_entry g at n) st xs).0
  entries_bring at n es [] sub st p = k.order.same st.0
  entries_bring at n es (x ∷ xs) sub st p =
      let one : St g = with_entry g at n st x in
      k.order.next st.0 one.0 _
      (import_by g k.order st.0 at x.0 (Export n) (Ok x.1)
      (λ f. k.exports st.0 x n f (subst (λ zs. Among x zs) p (sub x (inl refl)))))
      (entries_bring at n es xs (λ e a. sub e (inr a)) one
      (exported n es st.0 one.0 (entry_keeps g tables at n st x) p))

  taken_brings : (s : Scope g.Reported) (at : Pos) (n : ℕ) (es : List (List ℕ × Meaning)) (i : ℕ)
      (o : Option (Result (Unit {0}) g.Reported)) → es ≡ exports_of (slice_get s.tables n)
      → R s (unless_taken g s at n es i o).0
  taken_brings s at n es i (Some j) p = k.order.same s
  taken_brings s at n es i None p =
      let m : ℕ = brings_in (slice_get es i) in
      entries_bring at n es (take m (drop i es)) (λ e a. among_drop e i es (among_take e m (drop i es) a)) (s, Ok tt) p

  place_brings : (s : Scope g.Reported) (name : Ident) (n : ℕ) (es : List (List ℕ × Meaning)) (o : Option ℕ)
      → es ≡ exports_of (slice_get s.tables n) → R s (from_place g s name n es o).0
  place_brings s name n es None p = k.order.same s
  place_brings s name n es (Some i) p =
      taken_brings s name.pos n es i (reported_of_taken g name.pos n (find_name name.name s.own)) p

  from_brings : (n : ℕ) (es : List (List ℕ × Meaning)) (names : List Ident) (st : St g)
      → es ≡ exports_of (slice_get st.0.tables n)
      → R st.0 (fold (with_from g n es) st names).0
  from_brings n es [] st p = k.order.same st.0
  from_brings n es (x ∷ xs) st p =
      let one : St g = with_from g n es st x in
      k.order.next st.0 one.0 _ (place_brings st.0 x n es (place_of x.name es) p)
      (from_brings n es xs one (exported n es st.0 one.0 (from_keeps g tables n es st x) p))

  module_brings : (s : Scope g.Reported) (name : Ident) (r : Result ℕ g.Reported) → R s (with_module_as g s name r).0
  module_brings s name (Ok n) =
      import_by g k.order s name.pos name.name (Module n) (Ok (meaning.Module n)) (k.modules s name.name n)
  module_brings s name (Err e) = k.order.same s

  from_module_brings : (r : Result ℕ g.Reported) (st : St g) (names : List Ident) → R st.0 (from_module g r st names).0
  from_module_brings (Ok n) st names = from_brings n (exports_of (slice_get st.0.tables n)) names st refl
  from_module_brings (Err e) st names = k.order.same st.0

  import_brings : (modules : List (List ℕ × ℕ)) (st : St g) (from : Option Ident) (names : List Ident)
      → R st.0 (with_imports g modules st from names).0
  import_brings modules st None names =
      steps k.order (λ (st : St g). st.0) (with_module_name g modules)
      (λ st x. module_brings st.0 x (module_named g modules x))
      names st
  import_brings modules st (Some m) names = from_module_brings (module_named g modules m) st names

  pub imports_bring : (modules : List (List ℕ × ℕ)) (is : List Import) (st : St g)
      → R st.0 (fold (with_import g modules) st is).0
  imports_bring modules is st =
      steps k.order (λ (st : St g). st.0) (with_import g modules)
      (λ st i. import_brings modules st i.from i.names) is st
