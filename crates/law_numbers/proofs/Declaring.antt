-- Behind the declarations of a block its variables are numbered in order.
use Rattle.std.proofs.Common.{◌≡◌, ℕ, ◌==◌, Bool, true, false, cond, List, [], ◌∷◌, ◌++◌, Some, Result, Ok, Err, refl, sym, ap, subst, ◌∙◌, append-nil, append_assoc}
use Rattle.std.specs.Prelude.{map}
use Rattle.std.specs.List.{fold}
use Rattle.m2_tree.specs.declared.name.Ident.{Ident}
use Rattle.m2_tree.specs.declared.decl.Constant.{Constant}
use Rattle.m2_tree.specs.declared.decl.TypeDecl.{TypeDecl}
use Rattle.m2_tree.specs.declared.decl.Variables.{Variables}
use Rattle.m2_tree.specs.declared.decl.Heading.{Heading}
use Rattle.m2_tree.specs.declared.decl.Block.{Block}
use Rattle.m2_tree.specs.declared.decl.Decl.{Decl, Decl-F, out-Decl}
use Rattle.m2_tree.specs.declared.decl.Decl.TheOpen as dlayer
use Rattle.typed_tree.specs.declared.types.TypeNo.{TypeNo}
use Rattle.typed_tree.specs.declared.shape.Made.{Made}
use Rattle.typed_tree.specs.declared.meaning.Meaning.{Meaning}
use Rattle.typed_tree.specs.declared.meaning.Procedure.{Procedure as ModuleProcedure}
use Rattle.typed_tree.specs.Names.{find_name}
use Rattle.check_scope.specs.Elaborated.{Gathers}
use Rattle.check_scope.specs.Scopes.{State, with_known, is_free, is_begun}
use Rattle.check_scope.specs.declared.known.Known.{Known}
use Rattle.check_scope.specs.declared.known.Known.TheVariants.{Begun, Declared}
use Rattle.check_scope.specs.declared.known.Origin.TheVariants.{Here}
use Rattle.check_scope.specs.declared.scope.Scope.{Scope}
use Rattle.check_type_expr.specs.Made.{with_shape, type_of}
use Rattle.check_definition.specs.Declare.{with_constant, with_type, begun_name, finished_variable, with_variables, with_procedure_type}
use Rattle.check_block.specs.Declarations.{Course, finished_local, with_locals, decl_layer, with_decl}
use Rattle.check_block.specs.declared.heading.Standing.TheVariants.{Awaited, Taken}
use Rattle.check_block.specs.Headings.{name_standing, with_heading}
use Rattle.def_typing.specs.Parts.{Among}
use Rattle.def_typing.specs.Declarations.{Declaration, OfConstant, OfType, OfVariables, declared_by, declarations_of}
use Rattle.def_typed.specs.Numbers.{variables_by, variables_in, variable_at}
use Rattle.law_numbers.specs.Numbered.{Entry}
use Rattle.law_numbers.proofs.Walking.{IsEntered, begun_all, type_of_keeps, constants_stay, types_stay, heading_stays}
use Rattle.law_numbers.proofs.Variables as vars
use Rattle.law_numbers.proofs.Variables.{beside_first, beside_second, type_there, first_fine, all_begun, Distinct}

-- ---- lists of variables

pub variables_append : (xs ys : List Declaration) → variables_in (xs ++ ys) ≡ variables_in xs ++ variables_in ys
variables_append [] ys = refl
variables_append (x ∷ xs) ys = ap (λ (zs : List Ident). variables_by x ++ zs) (variables_append xs ys)
    ∙ sym (append_assoc (variables_by x) (variables_in xs) (variables_in ys))

no_constant : (cs : List Constant) → variables_in (map OfConstant cs) ≡ []
no_constant [] = refl
no_constant (c ∷ cs) = no_constant cs

no_type : (ts : List TypeDecl) → variables_in (map OfType ts) ≡ []
no_type [] = refl
no_type (t ∷ ts) = no_type ts

module _ (g : Gathers) (home level : ℕ) where
  abbrev pub S : Type 0
  S = Scope g.Reported

  abbrev pub V : ℕ → TypeNo → Meaning
  V n u = variable_at (level == 0) home level n u

  taken_by : (b : Bool) (n : ℕ) (u : TypeNo)
      → name_standing {T = g.Reported} (Some (Declared Here (Ok (variable_at b home level n u)))) ≡ Taken
  taken_by true n u = refl
  taken_by false n u = refl

  pub fixed : (n : ℕ) (u : TypeNo) → name_standing {T = g.Reported} (Some (Declared Here (Ok (V n u)))) ≡ Taken
  fixed n u = taken_by (level == 0) n u

  -- where a scope stands, and how its variables are numbered from a first number on
  pub record IsPlaced (base : ℕ) (vs : List Ident) (s : S) : Type 0 where
    pub of_home : s.types.home ≡ home
    pub of_level : s.level ≡ level
    pub counted : vars.IsCounted g V fixed base vs s

  module _ (base : ℕ) (vs : List Ident) where
    abbrev P : S → Type 0
    P = IsPlaced base vs

    placed_as : {s t : S} → t.types.home ≡ s.types.home → t.level ≡ s.level
        → (vars.IsCounted g V fixed base vs s → vars.IsCounted g V fixed base vs t) → P s → P t
    placed_as eh el h p = record { of_home = eh ∙ p.of_home; of_level = el ∙ p.of_level; counted = h p.counted }

    pub free : (s : S) (name : List ℕ) (k : Known g.Reported) → IsEntered k → is_free (find_name name s.own) ≡ true
        → P s → P (with_known name k s)
    free s name k i e p = placed_as refl refl (vars.counted_free g V fixed base vs s name k e) p

    begun : (s : S) (name : List ℕ) (k : Known g.Reported) → IsEntered k → is_begun (find_name name s.own) ≡ true → P s
        → P (with_known name k s)
    begun s name k i e p = placed_as refl refl (vars.counted_begun g V fixed base vs s name k e) p

    waiting : (s : S) (name : List ℕ) (q : ModuleProcedure) (k : Known g.Reported)
        → name_standing (find_name name s.own) ≡ Awaited q → P s → P (with_known name k s)
    waiting s name q k e p = placed_as refl refl (vars.counted_awaited g V fixed base vs s name q k e) p

    shaped : (s : S) (m : Made) → P s → P (with_shape s m)
    shaped s m p = placed_as refl refl (vars.counted_shaped g V fixed base vs s m) p

    headed : (s : S) (t : Result TypeNo g.Reported) → P s → P (with_procedure_type s t)
    headed s (Ok t) p = placed_as refl refl (vars.counted_headed g V fixed base vs s (Ok t)) p
    headed s (Err r) p = p

    constants_placed : (cs : List Constant) (st : State (Unit {0}) g.Reported) → P st.0
        → P (fold (with_constant g) st cs).0
    constants_placed cs st p = constants_stay g P free shaped begun cs st p

    types_placed : (ts : List TypeDecl) (st : State (Unit {0}) g.Reported) → P st.0 → P (fold (with_type g) st ts).0
    types_placed ts st p = types_stay g P free shaped begun ts st p

    heading_placed : (s : S) (x : Heading) (n : ℕ) → P s → P (with_heading g s n x).0
    heading_placed s x n p = heading_stays g P free shaped begun waiting headed s x n p

  -- ---- nothing is reported before, if nothing is reported behind

  constants_fine : (cs : List Constant) (st : State (Unit {0}) g.Reported) → (fold (with_constant g) st cs).1 ≡ Ok tt
      → st.1 ≡ Ok tt
  constants_fine [] st e = e
  constants_fine (c ∷ cs) st e = beside_first g _ _ (constants_fine cs (with_constant g st c) e)

  types_fine : (ts : List TypeDecl) (st : State (Unit {0}) g.Reported) → (fold (with_type g) st ts).1 ≡ Ok tt
      → st.1 ≡ Ok tt
  types_fine [] st e = e
  types_fine (t ∷ ts) st e = beside_first g _ _ (types_fine ts (with_type g st t) e)

  variables_fine : (vs : List Variables) (st : State (Unit {0}) g.Reported) → (fold (with_variables g) st vs).1 ≡ Ok tt
      → st.1 ≡ Ok tt
  variables_fine [] st e = e
  variables_fine (v ∷ vs) st e = first_fine g v.names st
      (beside_first g _ _ (variables_fine vs (with_variables g st v) e))

  locals_fine : (vs : List Variables) (st : State (Unit {0}) g.Reported) → (fold (with_locals g) st vs).1 ≡ Ok tt
      → st.1 ≡ Ok tt
  locals_fine [] st e = e
  locals_fine (v ∷ vs) st e = first_fine g v.names st (beside_first g _ _ (locals_fine vs (with_locals g st v) e))

  -- ---- one list of variables

  -- names that are begun stay so while a type is read
  begun_behind : (xs : List Ident) (v : Variables) (s : S) → ((x : Ident) → Among x xs → Entry s x.name Begun)
      → (x : Ident) → Among x xs → Entry (type_of g v.of s).0 x.name Begun
  begun_behind xs v s h x m = type_of_keeps g (λ t. Entry t x.name Begun)
      (λ t name k i e q. vars.free_beside g x.name Begun refl t name k e q) (λ t d q. q) v.of s (h x m)

  module _ (base : ℕ) (vs : List Ident) where
    -- by what a list of variables does with a type that is there
    list_placed : (b : Bool) (v : Variables) (st : State (Unit {0}) g.Reported) → (level == 0) ≡ b
        → IsPlaced base vs st.0
        → (fold (begun_name g) st v.names).1 ≡ Ok tt → (u : TypeNo)
        → (type_of g v.of (fold (begun_name g) st v.names).0).1 ≡ Ok u
        → IsPlaced base (vs ++ v.names) (cond {A = S → S} b (λ s. fold (finished_variable (Ok u)) s v.names)
        (λ s. fold (finished_local (Ok u)) s v.names) (type_of g v.of (fold (begun_name g) st v.names).0).0)
    list_placed b v st q p e u w = by_level b q
      where
        begins : S
        begins = (fold (begun_name g) st v.names).0

        read : S
        read = (type_of g v.of begins).0

        there : IsPlaced base vs read
        there = type_of_keeps g (IsPlaced base vs) (free base vs) (shaped base vs) v.of begins
            (begun_all g (IsPlaced base vs) (free base vs) v.names st p)

        more : vars.IsCounted g V fixed base (vs ++ v.names) (fold (vars.finish g V fixed u) read v.names)
        more = let a = all_begun g v.names st e in
            vars.counted_more g V fixed base vs v.names u read there.counted (begun_behind v.names v begins a.0) a.1

        placed : IsPlaced base (vs ++ v.names) (fold (vars.finish g V fixed u) read v.names)
        placed = record {
          of_home = vars.keys_stay g V fixed (λ s. s.types.home) (λ s n k. refl) (λ s t. refl) u v.names read
              ∙ there.of_home;
          of_level = vars.keys_stay g V fixed (λ s. s.level) (λ s n k. refl) (λ s t. refl) u v.names read
              ∙ there.of_level;
          counted = more;
        }

        by_level : (b : Bool) → (level == 0) ≡ b
            → IsPlaced base (vs ++ v.names) (cond {A = S → S} b (λ s. fold (finished_variable (Ok u)) s v.names)
            (λ s. fold (finished_local (Ok u)) s v.names) read)
        by_level true q = subst (IsPlaced base (vs ++ v.names))
            (sym (vars.fold_same g V fixed (λ s. s.types.home) (λ s n k. refl) (λ s t. refl)
            (λ h n t. variable_at true h level n t) home
            (λ n t. ap (λ (c : Bool). variable_at c home level n t) (sym q)) u v.names read there.of_home)) placed
        by_level false q = subst (IsPlaced base (vs ++ v.names))
            (sym (vars.fold_same g V fixed (λ s. s.level) (λ s n k. refl) (λ s t. refl)
            (λ l n t. variable_at false home l n t) level
            (λ n t. ap (λ (c : Bool). variable_at c home level n t) (sym q)) u v.names read there.of_level)) placed

  -- ---- all declarations

  variables_placed : (base : ℕ) (vs : List Ident) (xs : List Variables) (st : State (Unit {0}) g.Reported)
      → (level == 0) ≡ true → IsPlaced base vs st.0 → (fold (with_variables g) st xs).1 ≡ Ok tt
      → IsPlaced base (vs ++ variables_in (map OfVariables xs)) (fold (with_variables g) st xs).0
  variables_placed base vs [] st q p e = subst (λ (ys : List Ident). IsPlaced base ys st.0) (sym (append-nil vs)) p
  variables_placed base vs (x ∷ xs) st q p e =
      subst (λ (ys : List Ident). IsPlaced base ys (fold (with_variables g) st (x ∷ xs)).0)
      (append_assoc vs x.names (variables_in (map OfVariables xs)))
      (variables_placed base (vs ++ x.names) xs (with_variables g st x) q
      (by_type (type_there g (type_of g x.of b.0).1 (beside_second g _ _ fine))) e)
    where
      b : State (Unit {0}) g.Reported
      b = fold (begun_name g) st x.names

      fine : (with_variables g st x).1 ≡ Ok tt
      fine = variables_fine xs (with_variables g st x) e

      by_type : (u : TypeNo) × ((type_of g x.of b.0).1 ≡ Ok u) → IsPlaced base (vs ++ x.names) (with_variables g st x).0
      by_type (u, w) = subst (λ (r : Result TypeNo g.Reported). IsPlaced base (vs ++ x.names)
          (fold (finished_variable r) (type_of g x.of b.0).0 x.names)) (sym w)
          (list_placed base vs true x st q p (beside_first g _ _ fine) u w)

  locals_placed : (base : ℕ) (vs : List Ident) (xs : List Variables) (st : State (Unit {0}) g.Reported)
      → (level == 0) ≡ false → IsPlaced base vs st.0 → (fold (with_locals g) st xs).1 ≡ Ok tt
      → IsPlaced base (vs ++ variables_in (map OfVariables xs)) (fold (with_locals g) st xs).0
  locals_placed base vs [] st q p e = subst (λ (ys : List Ident). IsPlaced base ys st.0) (sym (append-nil vs)) p
  locals_placed base vs (x ∷ xs) st q p e =
      subst (λ (ys : List Ident). IsPlaced base ys (fold (with_locals g) st (x ∷ xs)).0)
      (append_assoc vs x.names (variables_in (map OfVariables xs)))
      (locals_placed base (vs ++ x.names) xs (with_locals g st x) q
      (by_type (type_there g (type_of g x.of b.0).1 (beside_second g _ _ fine))) e)
    where
      b : State (Unit {0}) g.Reported
      b = fold (begun_name g) st x.names

      fine : (with_locals g st x).1 ≡ Ok tt
      fine = locals_fine xs (with_locals g st x) e

      by_type : (u : TypeNo) × ((type_of g x.of b.0).1 ≡ Ok u) → IsPlaced base (vs ++ x.names) (with_locals g st x).0
      by_type (u, w) = subst (λ (r : Result TypeNo g.Reported). IsPlaced base (vs ++ x.names)
          (fold (finished_local r) (type_of g x.of b.0).0 x.names)) (sym w)
          (list_placed base vs false x st q p (beside_first g _ _ fine) u w)

  both_placed : (b : Bool) (base : ℕ) (vs : List Ident) (xs : List Variables) (st : State (Unit {0}) g.Reported)
      → (level == 0) ≡ b → IsPlaced base vs st.0
      → (cond {A = State (Unit {0}) g.Reported} b (fold (with_variables g) st xs) (fold (with_locals g) st xs)).1
      ≡ Ok tt
      → IsPlaced base (vs ++ variables_in (map OfVariables xs))
      (cond {A = State (Unit {0}) g.Reported} b (fold (with_variables g) st xs) (fold (with_locals g) st xs)).0
  both_placed true base vs xs st q p e = variables_placed base vs xs st q p e
  both_placed false base vs xs st q p e = locals_placed base vs xs st q p e

  both_fine : (b : Bool) (xs : List Variables) (st : State (Unit {0}) g.Reported)
      → (cond {A = State (Unit {0}) g.Reported} b (fold (with_variables g) st xs) (fold (with_locals g) st xs)).1
      ≡ Ok tt → st.1 ≡ Ok tt
  both_fine true xs st e = variables_fine xs st e
  both_fine false xs st e = locals_fine xs st e

  nothing_more : {base : ℕ} {vs ys : List Ident} {s : S} → ys ≡ [] → IsPlaced base vs s → IsPlaced base (vs ++ ys) s
  nothing_more {base = base} {vs = vs} {s = s} e p =
      subst (λ (zs : List Ident). IsPlaced base (vs ++ zs) s) (sym e)
      (subst (λ (zs : List Ident). IsPlaced base zs s) (sym (append-nil vs)) p)

  layer_placed : (ends : List ℕ) (base : ℕ) (vs : List Ident) (c : Course g.Reported) (y : Decl-F Decl Block)
      → IsPlaced base vs c.0 → (decl_layer g ends c y).1 ≡ Ok tt
      → IsPlaced base (vs ++ variables_in (declared_by y)) (decl_layer g ends c y).0
  layer_placed ends base vs c (dlayer.Constants cs) p e =
      nothing_more (no_constant cs) (constants_placed base vs cs (c.0, c.1) p)
  layer_placed ends base vs c (dlayer.Types ts) p e = nothing_more (no_type ts) (types_placed base vs ts (c.0, c.1) p)
  layer_placed ends base vs c (dlayer.Variables xs) p e =
      both_placed (c.0.level == 0) base vs xs (c.0, c.1) (ap (λ (l : ℕ). l == 0) (sym p.of_level)) p e
  layer_placed ends base vs c (dlayer.Procedure h b) p e = nothing_more refl (heading_placed base vs c.0 h c.2 p)

  layer_fine : (ends : List ℕ) (c : Course g.Reported) (y : Decl-F Decl Block) → (decl_layer g ends c y).1 ≡ Ok tt
      → c.1 ≡ Ok tt
  layer_fine ends c (dlayer.Constants cs) e = constants_fine cs (c.0, c.1) e
  layer_fine ends c (dlayer.Types ts) e = types_fine ts (c.0, c.1) e
  layer_fine ends c (dlayer.Variables xs) e = both_fine (c.0.level == 0) xs (c.0, c.1) e
  layer_fine ends c (dlayer.Procedure h b) e = beside_first g _ _ e

  pub decls_fine : (ends : List ℕ) (ds : List Decl) (c : Course g.Reported) → (fold (with_decl g ends) c ds).1 ≡ Ok tt
      → c.1 ≡ Ok tt
  decls_fine ends [] c e = e
  decls_fine ends (d ∷ ds) c e = layer_fine ends c (out-Decl d) (decls_fine ends ds (with_decl g ends c d) e)

  -- behind declarations of which nothing is reported
  pub decls_placed : (ends : List ℕ) (base : ℕ) (vs : List Ident) (ds : List Decl) (c : Course g.Reported)
      → IsPlaced base vs c.0 → (fold (with_decl g ends) c ds).1 ≡ Ok tt
      → IsPlaced base (vs ++ variables_in (declarations_of ds)) (fold (with_decl g ends) c ds).0
  decls_placed ends base vs [] c p e = subst (λ (ys : List Ident). IsPlaced base ys c.0) (sym (append-nil vs)) p
  decls_placed ends base vs (d ∷ ds) c p e =
      subst (λ (ys : List Ident). IsPlaced base ys (fold (with_decl g ends) c (d ∷ ds)).0)
      (append_assoc vs (variables_in (declared_by (out-Decl d))) (variables_in (declarations_of ds))
      ∙ ap (λ (ys : List Ident). vs ++ ys) (sym (variables_append (declared_by (out-Decl d)) (declarations_of ds))))
      (decls_placed ends base (vs ++ variables_in (declared_by (out-Decl d))) ds (with_decl g ends c d)
      (layer_placed ends base vs c (out-Decl d) p (decls_fine ends ds (with_decl g ends c d) e)) e)
