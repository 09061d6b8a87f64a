-- What a declaration enters, if nothing is reported of it.
use Rattle.std.proofs.Common.{◌≡◌, ℕ, ◌+◌, Bool, true, false, cond, List, [], ◌∷◌, ◌++◌, length, Option, Some, None, Result, Ok, Err, ◌⊎◌, inl, inr, refl, sym, ap, subst, ◌∙◌, arith, length-append}
use Rattle.std.specs.List.{fold}
use Rattle.m2_rule.specs.declared.rule.Rule.TheVariants as rule
use Rattle.m2_tree.specs.declared.name.Ident.{Ident}
use Rattle.m2_tree.specs.declared.decl.Constant.{Constant}
use Rattle.m2_tree.specs.declared.decl.TypeDecl.{TypeDecl}
use Rattle.m2_tree.specs.declared.decl.Variables.{Variables}
use Rattle.m2_tree.specs.declared.decl.Heading.{Heading}
use Rattle.m2_tree.specs.declared.decl.Simple.{Simple}
use Rattle.m2_tree.specs.declared.decl.Simple.TheVariants as simple
use Rattle.m2_tree.specs.declared.decl.TypeExpr.{TypeExpr, TypeExpr-F, out-TypeExpr}
use Rattle.m2_tree.specs.declared.decl.TypeExpr.TheOpen as layer
use Rattle.m2_tree.specs.declared.decl.Field.{Field}
use Rattle.typed_tree.specs.declared.types.TypeNo.{TypeNo}
use Rattle.typed_tree.specs.declared.known_types.Types.{Types}
use Rattle.typed_tree.specs.declared.shape.Made.{Made}
use Rattle.typed_tree.specs.declared.meaning.Value.{Value}
use Rattle.typed_tree.specs.declared.meaning.Meaning.{Meaning}
use Rattle.typed_tree.specs.declared.meaning.Meaning.TheVariants as meaning
use Rattle.typed_tree.specs.Names.{find_name}
use Rattle.check_scope.specs.declared.known.Known.{Known}
use Rattle.check_scope.specs.declared.known.Known.TheVariants as known
use Rattle.check_scope.specs.declared.known.Origin.TheVariants.{Here}
use Rattle.check_scope.specs.declared.scope.Scope.{Scope}
use Rattle.check_scope.specs.Elaborated.{Gathers, report, beside}
use Rattle.check_scope.specs.Scopes.{State, is_free, is_begun, with_known, begin_name, finish_name}
use Rattle.check_const.specs.Parts.{constant}
use Rattle.check_expr.specs.Meanings.{part}
use Rattle.check_type_expr.specs.Headings.{heading_of, names_of as formals_of}
use Rattle.check_type_expr.specs.Made.{with_shape, with_made, next_type, nothing_of, type_of}
use Rattle.check_definition.specs.Declare.{with_constant, constant_meaning, nothing_reported, brings_simple, brings_layer, brings_with, with_type, type_meaning, begun_name, with_variable_type, finished_variable, with_variables, with_procedure_type, declared_procedure, with_procedure}
use Rattle.def_typing.specs.Operators.{◌!◌}
use Rattle.def_typing.specs.Parts.{Among, here, later}
use Rattle.def_typing.specs.TypeExprs.{Member}
use Rattle.def_typing.specs.Declarations.{Declaration, OfConstant, OfType, OfVariables, OfProcedure, names_of}
use Rattle.law_typing.proofs.Combining.{Decided, holds, fails_it}
use Rattle.law_typing.proofs.Entering.{name_decided}
use Rattle.law_typing.proofs.Enumerating.{entered, Enters, scope_with}
use Rattle.law_typing.proofs.Recording.{NoTwice}
use Rattle.law_typing.proofs.Declaring.{clash}
use Rattle.law_rules.specs.Exports.{names_in_layer, names_with, variables_of, procedures_of, IsEntry, a_constant, a_type, a_variable, a_procedure}
use Rattle.law_rules.proofs.Keys.{entered_self, entered_other}
use Rattle.law_rules.proofs.Entries.{IsDeclared, by_declaration, by_heading}

-- a name that is new in a list is not there
pub new_of : (There : List ℕ → Type 0) (xs : List Ident) → NoTwice There xs → (x : Ident) → Among x xs → There x.name
    → ⊥
new_of There (y ∷ ys) n _ here h = n (y.pos ! rule.DeclaredTwice) (inl (h, refl))
new_of There (y ∷ ys) n x (later m) h = new_of (λ k. (y.name ≡ k) ⊎ There k) ys (λ f t. n f (inr t)) x m (inr h)
new_of There [] n x m h = elim m [ ]

simple_same : (x : Simple) → brings_simple x ≡ names_in_layer (layer.Simple x)
simple_same (simple.Named q) = refl
simple_same (simple.Enumeration at names) = refl
simple_same (simple.Subrange of at low high) = refl

names_same : (x : TypeExpr-F TypeExpr Field) → brings_layer x ≡ names_in_layer x
names_same (layer.Simple x) = simple_same x
names_same (layer.Array at index of) = refl
names_same (layer.Record at fields) = refl
names_same (layer.Procedure at formals of) = refl

no_more : (n : ℕ) → n ≡ n + 0
no_more n = omega arith

more_one : (k : ℕ) (x : Ident) (xs : List Ident) → k + (length xs + 1) ≡ k + length (x ∷ xs)
more_one k x xs = omega arith

suc_last : (n : ℕ) (x : Ident) (xs : List Ident) → (n + 1) + length xs ≡ n + length (x ∷ xs)
suc_last n x xs = omega arith

one_longer : (n k : ℕ) → (n + 1) + k ≡ n + (k + 1)
one_longer n k = omega arith

abbrev meant : TypeNo → ℕ → ℕ → Meaning
meant t home n = meaning.Variable (record { home = home; number = n; of = t })

module _ {T : Type 0} where
  begun_kept : (o : Option Member) → ◌≡◌ {A = Option (Known T)} (entered o (Some known.Begun)) (Some known.Begun)
  begun_kept None = refl
  begun_kept (Some e) = refl

  pub enters_begun : {bs : List (List ℕ × Member)} {before after : List (List ℕ × Known T)} (n : List ℕ)
      → Enters bs before after → find_name n before ≡ Some known.Begun → find_name n after ≡ Some known.Begun
  enters_begun {bs = bs} n e q = e.found n ∙ ap (λ (k : Option (Known T)). entered (find_name n bs) k) q
      ∙ begun_kept (find_name n bs)

  -- ---- names that are finished

  finish_is : (s : Scope T) (x : Ident) (m : Result Meaning T) → find_name x.name s.own ≡ Some known.Begun
      → finish_name s x m ≡ with_known x.name (known.Declared Here m) s
  finish_is s x m e = ap (λ (o : Option (Known T)). cond (is_begun o) (with_known x.name (known.Declared Here m) s) s) e

  finish_found : (s : Scope T) (x : Ident) (m : Result Meaning T) → find_name x.name s.own ≡ Some known.Begun
      → find_name x.name (finish_name s x m).own ≡ Some (known.Declared Here m)
  finish_found s x m e = ap (λ (t : Scope T). find_name x.name t.own) (finish_is s x m e)
      ∙ entered_self x.name (known.Declared Here m) s.own

  stays_by : (s : Scope T) (y : Ident) (w : Result Meaning T) (n : List ℕ) (m : Result Meaning T)
      → find_name n s.own ≡ Some (known.Declared Here m) → (b : Bool) → is_begun (find_name y.name s.own) ≡ b
      → {t : Bool} → Decided (y.name ≡ n) t → find_name n (cond b (with_known y.name (known.Declared Here w) s) s).own
      ≡ Some (known.Declared Here m)
  stays_by s y w n m e true q (holds h) = let z : is_begun (find_name n s.own) ≡ true =
      subst (λ (k : List ℕ). is_begun (find_name k s.own) ≡ true) h q in
      absurd (clash z (ap (λ (o : Option (Known T)). is_begun o) e))
  stays_by s y w n m e true q (fails_it c) = entered_other y.name n (known.Declared Here w) s.own c ∙ e
  stays_by s y w n m e false q d = e

  finish_stays : (s : Scope T) (y : Ident) (w : Result Meaning T) (n : List ℕ) (m : Result Meaning T)
      → find_name n s.own ≡ Some (known.Declared Here m)
      → find_name n (finish_name s y w).own ≡ Some (known.Declared Here m)
  finish_stays s y w n m e = stays_by s y w n m e (is_begun (find_name y.name s.own)) refl (name_decided y.name n)

  finish_variables : (s : Scope T) (x : Ident) (m : Result Meaning T) → (finish_name s x m).variables ≡ s.variables
  finish_variables s x m = by (is_begun (find_name x.name s.own))
    where
      by : (b : Bool) → (cond b (with_known x.name (known.Declared Here m) s) s).variables ≡ s.variables
      by true = refl
      by false = refl

  finish_procedures : (s : Scope T) (x : Ident) (m : Result Meaning T) → (finish_name s x m).procedures ≡ s.procedures
  finish_procedures s x m = by (is_begun (find_name x.name s.own))
    where
      by : (b : Bool) → (cond b (with_known x.name (known.Declared Here m) s) s).procedures ≡ s.procedures
      by true = refl
      by false = refl

  -- ---- variables of one list

  module _ (t : TypeNo) where
    abbrev with_one : Scope T → Scope T
    with_one s = with_variable_type s (Ok t)

    abbrev each : Scope T → List Ident → Scope T
    each s xs = fold (finished_variable (Ok t)) s xs

    each_stays : (xs : List Ident) (s : Scope T) (n : List ℕ) (m : Result Meaning T)
        → find_name n s.own ≡ Some (known.Declared Here m) → find_name n (each s xs).own ≡ Some (known.Declared Here m)
    each_stays [] s n m e = e
    each_stays (x ∷ xs) s n m e = each_stays xs (finished_variable (Ok t) s x) n m
        (finish_stays (with_one s) x (Ok (meant t s.types.home (length s.variables))) n m e)

    abbrev Numbered : Scope T → List Ident → Ident → Type 0
    Numbered s xs x = (before : List Ident) × (behind : List Ident) × (xs ≡ before ++ x ∷ behind)
        × (find_name x.name (each s xs).own ≡ Some
        (known.Declared Here (Ok (meant t s.types.home (length s.variables + length before)))))

    each_found : (xs : List Ident) (There : List ℕ → Type 0) → NoTwice There xs → (s : Scope T)
        → ((x : Ident) → Among x xs → find_name x.name s.own ≡ Some known.Begun) → (x : Ident) → Among x xs
        → Numbered s xs x
    each_found [] There n s b x m = elim m [ ]
    each_found (y ∷ ys) There n s b _ here = (
      [],
      ys,
      refl,
      each_stays ys (finished_variable (Ok t) s y) y.name (Ok (meant t s.types.home (length s.variables)))
          (finish_found (with_one s) y (Ok (meant t s.types.home (length s.variables))) (b y here))
          ∙ ap (λ (k : ℕ). let o : Option (Known T) = Some (known.Declared Here (Ok (meant t s.types.home k))) in o)
          (no_more (length s.variables)),
    )
    each_found (y ∷ ys) There n s b x (later m) =
        let u = with_known y.name (known.Declared Here (Ok (meant t s.types.home (length s.variables)))) (with_one s) in
        let q = each_found ys (λ k. (y.name ≡ k) ⊎ There k) (λ f z. n f (inr z)) u
        (λ z w. entered_other y.name z.name (known.Declared Here (Ok (meant t s.types.home (length s.variables))))
        s.own (λ e. new_of (λ k. (y.name ≡ k) ⊎ There k) ys (λ f z. n f (inr z)) z w (inl e)) ∙ b z (later w)) x m
        in
        let is : finished_variable (Ok t) s y ≡ u =
        finish_is (with_one s) y (Ok (meant t s.types.home (length s.variables))) (b y here) in
        let number : (length (s.variables ++ t ∷ [])) + length q.0 ≡ length s.variables + (length q.0 + 1) =
        ap (λ (k : ℕ). k + length q.0) (length-append s.variables (t ∷ []))
        ∙ one_longer (length s.variables) (length q.0) in (
          y ∷ q.0,
          q.1,
          ap (λ (xs : List Ident). y ∷ xs) q.2,
          ap (λ (v : Scope T). find_name x.name (each v ys).own) is
              ∙ q.3 ∙ ap (λ (k : ℕ). let o : Option (Known T) =
              Some (known.Declared Here (Ok (meant t s.types.home k))) in o)
              (number ∙ more_one (length s.variables) y q.0),
        )

    each_variables : (xs : List Ident) (s : Scope T) → length (each s xs).variables ≡ length s.variables + length xs
    each_variables [] s = no_more (length s.variables)
    each_variables (x ∷ xs) s = each_variables xs (finished_variable (Ok t) s x)
        ∙ ap (λ (ts : List TypeNo). length ts + length xs)
        (finish_variables (with_one s) x (Ok (meant t s.types.home (length s.variables))))
        ∙ ap (λ (k : ℕ). k + length xs) (length-append s.variables (t ∷ [])) ∙ suc_last (length s.variables) x xs

    each_procedures : (xs : List Ident) (s : Scope T) → (each s xs).procedures ≡ s.procedures
    each_procedures [] s = refl
    each_procedures (x ∷ xs) s = each_procedures xs (finished_variable (Ok t) s x)
        ∙ finish_procedures (with_one s) x (Ok (meant t s.types.home (length s.variables)))

module _ (g : Gathers) where
  abbrev S : Type 0
  S = Scope g.Reported

  abbrev R : Type 0
  R = Result (Unit {0}) g.Reported

  abbrev St : Type 0
  St = State (Unit {0}) g.Reported

  pub left_fine : (a b : R) → beside g a b ≡ Ok tt → a ≡ Ok tt
  left_fine (Ok x) (Ok y) e = refl
  left_fine (Ok x) (Err f) e = refl
  left_fine (Err f) (Ok y) e = absurd cc
  left_fine (Err f) (Err h) e = absurd cc

  pub right_fine : (a b : R) → beside g a b ≡ Ok tt → b ≡ Ok tt
  right_fine (Ok x) (Ok y) e = refl
  right_fine (Ok x) (Err f) e = absurd cc
  right_fine (Err f) (Ok y) e = refl
  right_fine (Err f) (Err h) e = absurd cc

  -- ---- names that are begun

  abbrev unless : Bool → S → Ident → Known g.Reported → St
  unless b s x k = cond b (with_known x.name k s, Ok tt) (s, report g x.pos rule.DeclaredTwice)

  unless_found : (b : Bool) (s : S) (x : Ident) (k : Known g.Reported) → (unless b s x k).1 ≡ Ok tt
      → find_name x.name (unless b s x k).0.own ≡ Some k
  unless_found true s x k e = entered_self x.name k s.own
  unless_found false s x k e = absurd cc

  unless_other : (b : Bool) (s : S) (x : Ident) (k : Known g.Reported) (n : List ℕ) → (x.name ≡ n → ⊥)
      → find_name n (unless b s x k).0.own ≡ find_name n s.own
  unless_other true s x k n c = entered_other x.name n k s.own c
  unless_other false s x k n c = refl

  unless_variables : (b : Bool) (s : S) (x : Ident) (k : Known g.Reported) → (unless b s x k).0.variables ≡ s.variables
  unless_variables true s x k = refl
  unless_variables false s x k = refl

  unless_procedures : (b : Bool) (s : S) (x : Ident) (k : Known g.Reported)
      → (unless b s x k).0.procedures ≡ s.procedures
  unless_procedures true s x k = refl
  unless_procedures false s x k = refl

  unless_types : (b : Bool) (s : S) (x : Ident) (k : Known g.Reported) → (unless b s x k).0.types ≡ s.types
  unless_types true s x k = refl
  unless_types false s x k = refl

  abbrev is_new : S → Ident → Bool
  is_new s x = is_free (find_name x.name s.own)

  begun_fine : (xs : List Ident) (st : St) → (fold (begun_name g) st xs).1 ≡ Ok tt → st.1 ≡ Ok tt
  begun_fine [] st e = e
  begun_fine (x ∷ xs) st e = left_fine st.1 (begin_name g st.0 x).1 (begun_fine xs (begun_name g st x) e)

  begun_stays : (xs : List Ident) (There : List ℕ → Type 0) → NoTwice There xs → (st : St) (n : List ℕ) → There n
      → find_name n st.0.own ≡ Some known.Begun → find_name n (fold (begun_name g) st xs).0.own ≡ Some known.Begun
  begun_stays [] There c st n h e = e
  begun_stays (x ∷ xs) There c st n h e =
      begun_stays xs (λ k. (x.name ≡ k) ⊎ There k) (λ f t. c f (inr t)) (begun_name g st x) n (inr h)
      (unless_other (is_new st.0 x) st.0 x known.Begun n
      (λ q. c (x.pos ! rule.DeclaredTwice) (inl (subst There (sym q) h, refl))) ∙ e)

  begun_found : (xs : List Ident) (There : List ℕ → Type 0) → NoTwice There xs → (st : St)
      → (fold (begun_name g) st xs).1 ≡ Ok tt → (x : Ident) → Among x xs
      → find_name x.name (fold (begun_name g) st xs).0.own ≡ Some known.Begun
  begun_found [] There c st e x m = elim m [ ]
  begun_found (y ∷ ys) There c st e _ here =
      begun_stays ys (λ k. (y.name ≡ k) ⊎ There k) (λ f t. c f (inr t)) (begun_name g st y) y.name (inl refl)
      (unless_found (is_new st.0 y) st.0 y known.Begun
      (right_fine st.1 (begin_name g st.0 y).1 (begun_fine ys (begun_name g st y) e)))
  begun_found (y ∷ ys) There c st e x (later m) =
      begun_found ys (λ k. (y.name ≡ k) ⊎ There k) (λ f t. c f (inr t)) (begun_name g st y) e x m

  begun_variables : (xs : List Ident) (st : St) → (fold (begun_name g) st xs).0.variables ≡ st.0.variables
  begun_variables [] st = refl
  begun_variables (x ∷ xs) st = begun_variables xs (begun_name g st x)
      ∙ unless_variables (is_new st.0 x) st.0 x known.Begun

  begun_procedures : (xs : List Ident) (st : St) → (fold (begun_name g) st xs).0.procedures ≡ st.0.procedures
  begun_procedures [] st = refl
  begun_procedures (x ∷ xs) st = begun_procedures xs (begun_name g st x)
      ∙ unless_procedures (is_new st.0 x) st.0 x known.Begun

  begun_types : (xs : List Ident) (st : St) → (fold (begun_name g) st xs).0.types ≡ st.0.types
  begun_types [] st = refl
  begun_types (x ∷ xs) st = begun_types xs (begun_name g st x) ∙ unless_types (is_new st.0 x) st.0 x known.Begun

  -- ---- what a declaration enters

  pub record Takes (s : S) (d : Declaration) (t : S) : Type 0 where
    pub own : (x : Ident) → Among x (names_of d) → (m : Meaning)
        × IsDeclared m (find_name x.name t.own)
        × IsEntry s.types.home (length s.variables) (length s.procedures) d x m
    pub variables : length t.variables ≡ length s.variables + variables_of d
    pub procedures : length t.procedures ≡ length s.procedures + procedures_of d

  abbrev pub Fine : St → Declaration → St → Type 0
  Fine st d up = up.1 ≡ Ok tt → (st.1 ≡ Ok tt) × Takes st.0 d up.0

  declared_here : {m : Meaning} {o : Option (Known g.Reported)} → o ≡ Some (known.Declared Here (Ok m)) → IsDeclared m o
  declared_here {m = m} e = subst (λ (o : Option (Known g.Reported)). IsDeclared m o) (sym e) by_declaration

  headed_here : {m : Meaning} {o : Option (Known g.Reported)} → o ≡ Some (known.Headed (Ok m)) → IsDeclared m o
  headed_here {m = m} e = subst (λ (o : Option (Known g.Reported)). IsDeclared m o) (sym e) by_heading

  one_name : (P : Ident → Type 0) {x : Ident} → P x → (y : Ident) → Among y (x ∷ []) → P y
  one_name P h _ here = h
  one_name P h y (later m) = elim m [ ]

  -- ---- constants

  constant_by : (st : St) (c : Constant) (v : Result Value g.Reported) → let b = begin_name g st.0 c.name in
      beside g st.1 (beside g b.1 (nothing_reported v)) ≡ Ok tt → (st.1 ≡ Ok tt)
      × Takes st.0 (OfConstant c) (finish_name b.0 c.name (constant_meaning v))
  constant_by st c (Ok x) e = let b = begin_name g st.0 c.name in let f = right_fine st.1 (beside g b.1 (Ok tt)) e in (
    left_fine st.1 (beside g b.1 (Ok tt)) e,
    record {
      own = one_name (λ y. (m : Meaning)
          × IsDeclared m (find_name y.name (finish_name b.0 c.name (Ok (meaning.Constant x))).own)
          × IsEntry st.0.types.home (length st.0.variables) (length st.0.procedures) (OfConstant c) y m) (
            meaning.Constant x,
            declared_here (finish_found b.0 c.name (Ok (meaning.Constant x))
                (unless_found (is_new st.0 c.name) st.0 c.name known.Begun (left_fine b.1 (Ok tt) f))),
            a_constant,
          );
      variables = ap (λ (ts : List TypeNo). length ts)
          (finish_variables b.0 c.name (Ok (meaning.Constant x))
          ∙ unless_variables (is_new st.0 c.name) st.0 c.name known.Begun) ∙ no_more (length st.0.variables);
      procedures = ap (λ (ts : List TypeNo). length ts)
          (finish_procedures b.0 c.name (Ok (meaning.Constant x))
          ∙ unless_procedures (is_new st.0 c.name) st.0 c.name known.Begun) ∙ no_more (length st.0.procedures);
    },
  )
  constant_by st c (Err f) e = let b = begin_name g st.0 c.name in
      let z = right_fine b.1 (Err f) (right_fine st.1 (beside g b.1 (Err f)) e) in absurd cc

  pub constant_takes : (st : St) (c : Constant) → Fine st (OfConstant c) (with_constant g st c)
  constant_takes st c e = constant_by st c (constant g (begin_name g st.0 c.name).0 (part g c.value)) e

  -- ---- types

  module _ (st : St) (d : TypeDecl) {bs : List (List ℕ × Member)} (ms : List Made)
      (own : List (List ℕ × Known g.Reported)) (t : S) (is : t ≡ scope_with (begin_name g st.0 d.name).0 ms own)
      (enters : Enters bs (begin_name g st.0 d.name).0.own own) where
    abbrev b : St
    b = begin_name g st.0 d.name

    type_by : (r : Result TypeNo g.Reported) → beside g st.1 (beside g b.1 (nothing_of r)) ≡ Ok tt → (st.1 ≡ Ok tt)
        × Takes st.0 (OfType d) (finish_name t d.name (type_meaning r (brings_with d.of)))
    type_by (Ok u) e = let f = right_fine st.1 (beside g b.1 (Ok tt)) e in (
      left_fine st.1 (beside g b.1 (Ok tt)) e,
      record {
        own = one_name (λ y. (m : Meaning)
            × IsDeclared m (find_name y.name (finish_name t d.name (Ok (meaning.Type u (brings_with d.of)))).own)
            × IsEntry st.0.types.home (length st.0.variables) (length st.0.procedures) (OfType d) y m) (
              meaning.Type u (names_with d.of),
              declared_here (finish_found t d.name (Ok (meaning.Type u (brings_with d.of)))
                  (ap (λ (t : S). find_name d.name.name t.own) is
                  ∙ enters_begun d.name.name enters (unless_found (is_new st.0 d.name) st.0 d.name known.Begun
                  (left_fine b.1 (Ok tt) f)))
                  ∙ ap (λ (k : ℕ). let o : Option (Known g.Reported) =
                  Some (known.Declared Here (Ok (meaning.Type u k))) in
                  o) (names_same (out-TypeExpr d.of))),
              a_type,
            );
        variables = ap (λ (ts : List TypeNo). length ts)
            (finish_variables t d.name (Ok (meaning.Type u (brings_with d.of))) ∙ ap (λ (t : S). t.variables) is
            ∙ unless_variables (is_new st.0 d.name) st.0 d.name known.Begun) ∙ no_more (length st.0.variables);
        procedures = ap (λ (ts : List TypeNo). length ts)
            (finish_procedures t d.name (Ok (meaning.Type u (brings_with d.of))) ∙ ap (λ (t : S). t.procedures) is
            ∙ unless_procedures (is_new st.0 d.name) st.0 d.name known.Begun) ∙ no_more (length st.0.procedures);
      },
    )
    type_by (Err f) e = let z = right_fine b.1 (Err f) (right_fine st.1 (beside g b.1 (Err f)) e) in absurd cc

  pub type_takes : (st : St) (d : TypeDecl) {bs : List (List ℕ × Member)} (ms : List Made)
      (own : List (List ℕ × Known g.Reported))
      → (type_of g d.of (begin_name g st.0 d.name).0).0 ≡ scope_with (begin_name g st.0 d.name).0 ms own
      → Enters bs (begin_name g st.0 d.name).0.own own → Fine st (OfType d) (with_type g st d)
  type_takes st d ms own is enters e = type_by st d ms own (type_of g d.of (begin_name g st.0 d.name).0).0 is enters
      (type_of g d.of (begin_name g st.0 d.name).0).1 e

  -- ---- variables

  module _ (st : St) (v : Variables) (There : List ℕ → Type 0) (new : NoTwice There v.names)
      {bs : List (List ℕ × Member)} (ms : List Made) (own : List (List ℕ × Known g.Reported)) (t : S)
      (is : t ≡ scope_with (fold (begun_name g) st v.names).0 ms own)
      (enters : Enters bs (fold (begun_name g) st v.names).0.own own) where
    abbrev c : St
    c = fold (begun_name g) st v.names

    variables_by : (r : Result TypeNo g.Reported) → beside g c.1 (nothing_of r) ≡ Ok tt → (st.1 ≡ Ok tt)
        × Takes st.0 (OfVariables v) (fold (finished_variable r) t v.names)
    variables_by (Ok u) e = let f = left_fine c.1 (Ok tt) e in (
      begun_fine v.names st f,
      record {
        own = λ x m. let q = each_found u v.names There new t
            (λ x m. ap (λ (t : S). find_name x.name t.own) is
            ∙ enters_begun x.name enters (begun_found v.names There new st f x m)) x m in (
              meaning.Variable (record { home = st.0.types.home; number = length st.0.variables + length q.0; of = u }),
              declared_here (q.3 ∙ ap (λ (k : ℕ). let o : Option (Known g.Reported) =
                  Some (known.Declared Here (Ok (meaning.Variable
                  (record { home = k; number = length t.variables + length q.0; of = u })))) in o)
                  (ap (λ (t : S). t.types.home) is ∙ ap (λ (ts : Types). ts.home) (begun_types v.names st))
                  ∙ ap (λ (ts : List TypeNo). let o : Option (Known g.Reported) =
                  Some (known.Declared Here (Ok (meaning.Variable
                  (record { home = st.0.types.home; number = length ts + length q.0; of = u })))) in o)
                  (ap (λ (t : S). t.variables) is ∙ begun_variables v.names st)),
              a_variable q.0 q.1 q.2,
            );
        variables = each_variables u v.names t
            ∙ ap (λ (ts : List TypeNo). length ts + length v.names)
            (ap (λ (t : S). t.variables) is ∙ begun_variables v.names st);
        procedures = ap (λ (ts : List TypeNo). length ts)
            (each_procedures u v.names t ∙ ap (λ (t : S). t.procedures) is ∙ begun_procedures v.names st)
            ∙ no_more (length st.0.procedures);
      },
    )
    variables_by (Err f) e = let z = right_fine c.1 (Err f) e in absurd cc

  pub variables_take : (st : St) (v : Variables) (There : List ℕ → Type 0) → NoTwice There v.names
      → {bs : List (List ℕ × Member)} (ms : List Made) (own : List (List ℕ × Known g.Reported))
      → (type_of g v.of (fold (begun_name g) st v.names).0).0 ≡ scope_with (fold (begun_name g) st v.names).0 ms own
      → Enters bs (fold (begun_name g) st v.names).0.own own → Fine st (OfVariables v) (with_variables g st v)
  variables_take st v There new ms own is enters e =
      variables_by st v There new ms own (type_of g v.of (fold (begun_name g) st v.names).0).0 is enters
      (type_of g v.of (fold (begun_name g) st v.names).0).1 e

  -- ---- procedures

  procedure_by : (st : St) (h : Heading) (made : Result Made g.Reported) → let t = with_made st.0 made in
      let d = declared_procedure g t.0 h.name t.1 in
      beside g st.1 (beside g (formals_of g h) (beside g (nothing_of t.1) d.1)) ≡ Ok tt → (st.1 ≡ Ok tt)
      × Takes st.0 (OfProcedure h) d.0
  procedure_by st h (Ok m) e =
      let u = next_type st.0 in
      let s = with_procedure_type (with_shape st.0 m) (Ok u) in
      let p = meaning.Procedure (record { home = st.0.types.home; number = length st.0.procedures; heading = u }) in
      let d = unless (is_new s h.name) s h.name (known.Headed (Ok p)) in
      let f = right_fine (formals_of g h) (beside g (Ok tt) d.1)
      (right_fine st.1 (beside g (formals_of g h) (beside g (Ok tt) d.1)) e) in (
        left_fine st.1 (beside g (formals_of g h) (beside g (Ok tt) d.1)) e,
        record {
          own = one_name (λ y. (m : Meaning) × IsDeclared m (find_name y.name d.0.own)
              × IsEntry st.0.types.home (length st.0.variables) (length st.0.procedures) (OfProcedure h) y m) (
                p,
                headed_here (unless_found (is_new s h.name) s h.name (known.Headed (Ok p)) (right_fine (Ok tt) d.1 f)),
                a_procedure,
              );
          variables = ap (λ (ts : List TypeNo). length ts)
              (unless_variables (is_new s h.name) s h.name (known.Headed (Ok p)))
              ∙ no_more (length st.0.variables);
          procedures = ap (λ (ts : List TypeNo). length ts)
              (unless_procedures (is_new s h.name) s h.name (known.Headed (Ok p)))
              ∙ length-append st.0.procedures (u ∷ []);
        },
      )
  procedure_by st h (Err f) e =
      let d = declared_procedure g st.0 h.name (Err f) in
      let z = left_fine (Err f) d.1 (right_fine (formals_of g h) (beside g (Err f) d.1)
      (right_fine st.1 (beside g (formals_of g h) (beside g (Err f) d.1)) e)) in absurd cc

  pub procedure_takes : (st : St) (h : Heading) → Fine st (OfProcedure h) (with_procedure g st h)
  procedure_takes st h e = procedure_by st h (heading_of g st.0 h) e
