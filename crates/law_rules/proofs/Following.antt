-- What is reported of a block behind imports stands beside what is reported of these.
use Rattle.std.proofs.Common.{◌≡◌, ℕ, Bool, true, false, cond, List, [], ◌∷◌, Result, Ok, Err, ◌⊎◌, inl, inr, refl, sym, ap, subst, ◌∙◌, append_assoc}
use Rattle.std.specs.Prelude.{◌==◌, map, length}
use Rattle.std.specs.List.{fold}
use Rattle.m2_rule.specs.declared.breach.Breach.{Breach}
use Rattle.m2_rule.specs.Breaches.{is_less}
use Rattle.m2_tree.specs.declared.name.Ident.{Ident}
use Rattle.m2_tree.specs.declared.decl.Constant.{Constant}
use Rattle.m2_tree.specs.declared.decl.TypeDecl.{TypeDecl}
use Rattle.m2_tree.specs.declared.decl.Variables.{Variables}
use Rattle.m2_tree.specs.declared.decl.Decl.{Decl, Decl-F, out-Decl}
use Rattle.m2_tree.specs.declared.decl.Decl.TheOpen as layer
use Rattle.m2_tree.specs.declared.decl.Block.{Block}
use Rattle.m2_tree.specs.declared.decl.Simple.{Simple}
use Rattle.m2_tree.specs.declared.decl.Simple.TheVariants as simple
use Rattle.m2_tree.specs.declared.decl.TypeExpr.{TypeExpr, TypeExpr-F}
use Rattle.m2_tree.specs.declared.decl.TypeExpr.TheOpen as type_layer
use Rattle.m2_tree.specs.declared.decl.Field.{Field}
use Rattle.m2_tree.specs.declared.expr.Expr.{Expr}
use Rattle.check_scope.specs.declared.scope.Scope.{Scope}
use Rattle.check_scope.specs.Elaborated.{Gathers, every, least, beside}
use Rattle.check_scope.specs.Scopes.{State, begin_name}
use Rattle.check_type_expr.specs.Made.{nothing_of, type_of}
use Rattle.check_definition.specs.Declare.{with_constant, with_type, begun_name, finished_variable, with_variables}
use Rattle.check_definition.specs.Again as again
use Rattle.check_definition.specs.Again.{Passing, Passes, reported_at, again_value, again_simple, then_passes, again_type, again_field, again_constant, again_declared, again_variables}
use Rattle.check_scope.specs.Inwards.{inwards}
use Rattle.check_block.specs.Declarations.{finished_local, with_locals, with_variables_of, Course, going_on, decl_layer, with_decl, again_layer, again_decl, declared_block}
use Rattle.law_folds.proofs.TypeFolds.{Typed, Fielded, bare, all_trees}
use Rattle.law_folds.proofs.AgainSteps.{again_opened, again_at, again_fields_at}
use Rattle.law_typing.specs.Judging.{Judges, Reports, reports_nothing, reports_broken}
use Rattle.law_typing.proofs.Order.{below, above}
use Rattle.law_typing.proofs.Combining.{Lawful, Tells, silent, tells, beside_tells}
use Rattle.law_rules.specs.Importing.{imported_all, FollowingBlocksAreExact}
use Rattle.law_rules.proofs.Behind.{imports_answer}
use Rattle.law_rules.proofs.BlocksAgain.{block_again}

-- ---- it does not matter which two are gathered first

abbrev pub Associates : Gathers → Type 0
Associates g = (a b c : g.Reported) → g.join (g.join a b) c ≡ g.join a (g.join b c)

pub all_associate : Associates every
all_associate a b c = append_assoc a b c

least_by : (a b c : Breach) (p q r : Bool) → is_less b a ≡ p → is_less c b ≡ q → is_less c a ≡ r
    → cond (is_less c (cond p b a)) c (cond p b a) ≡ cond (is_less (cond q c b) a) (cond q c b) a
least_by a b c true true true e f h = ap (λ (t : Bool). cond t c b) f ∙ sym (ap (λ (t : Bool). cond t c a) h)
least_by a b c true true false e f h = let z : true ≡ false = sym f ∙ below c a b h e in absurd cc
least_by a b c true false r e f h = ap (λ (t : Bool). cond t c b) f ∙ sym (ap (λ (t : Bool). cond t b a) e)
least_by a b c false true r e f h = refl
least_by a b c false false r e f h = ap (λ (t : Bool). cond t c a) (above c b a f e)
    ∙ sym (ap (λ (t : Bool). cond t b a) e)

pub least_associates : Associates least
least_associates a b c = least_by a b c (is_less b a) (is_less c b) (is_less c a) refl refl refl

module _ (g : Gathers) (associates : Associates g) where
  abbrev R : Type 0
  R = Result (Unit {0}) g.Reported

  beside_beside : (a b c : R) → beside g (beside g a b) c ≡ beside g a (beside g b c)
  beside_beside (Ok u) (Ok v) (Ok w) = refl
  beside_beside (Ok u) (Ok v) (Err z) = refl
  beside_beside (Ok u) (Err y) (Ok w) = refl
  beside_beside (Ok u) (Err y) (Err z) = refl
  beside_beside (Err x) (Ok v) (Ok w) = refl
  beside_beside (Err x) (Ok v) (Err z) = refl
  beside_beside (Err x) (Err y) (Ok w) = refl
  beside_beside (Err x) (Err y) (Err z) = ap (λ (e : g.Reported). Err e) (associates x y z)

  beside_nothing : (a : R) → a ≡ beside g a (Ok tt)
  beside_nothing (Ok u) = refl
  beside_nothing (Err x) = refl

  module _ (r : R) where
    -- one state, and the same with this reported before
    data Shifted : State (Unit {0}) g.Reported → State (Unit {0}) g.Reported → Type 0 where
      shifted : {s : Scope g.Reported} {b a : R} → a ≡ beside g r b → Shifted (s, b) (s, a)

    data Moved : Course g.Reported → Course g.Reported → Type 0 where
      moved : {s : Scope g.Reported} {b a : R} {n : ℕ} → a ≡ beside g r b → Moved (s, b, n) (s, a, n)

    more : (a b x : R) → a ≡ beside g r b → beside g a x ≡ beside g r (beside g b x)
    more a b x e = ap (λ (a : R). beside g a x) e ∙ beside_beside r b x

    fold_shifts : {X : Type 0} (f : State (Unit {0}) g.Reported → X → State (Unit {0}) g.Reported)
        → ((x : X) (p q : State (Unit {0}) g.Reported) → Shifted p q → Shifted (f p x) (f q x))
        → (xs : List X) {p q : State (Unit {0}) g.Reported} → Shifted p q → Shifted (fold f p xs) (fold f q xs)
    fold_shifts f h [] z = z
    fold_shifts f h (x ∷ xs) {p = p} {q = q} z = fold_shifts f h xs (h x p q z)

    begun_shifts : (x : Ident) {p q : State (Unit {0}) g.Reported} → Shifted p q
        → Shifted (begun_name g p x) (begun_name g q x)
    begun_shifts x (shifted {s = s} {b = b} {a = a} e) = shifted (more a b (begin_name g s x).1 e)

    constant_shifts : (c : Constant) {p q : State (Unit {0}) g.Reported} → Shifted p q
        → Shifted (with_constant g p c) (with_constant g q c)
    constant_shifts c (shifted {b = b} {a = a} e) = shifted (more a b _ e)

    type_shifts : (d : TypeDecl) {p q : State (Unit {0}) g.Reported} → Shifted p q
        → Shifted (with_type g p d) (with_type g q d)
    type_shifts d (shifted {b = b} {a = a} e) = shifted (more a b _ e)

    variables_end : (v : Variables) {p q : State (Unit {0}) g.Reported} → Shifted p q
        → Shifted (let t = type_of g v.of p.0 in
        (fold (finished_variable t.1) t.0 v.names, beside g p.1 (nothing_of t.1)))
        (let t = type_of g v.of q.0 in (fold (finished_variable t.1) t.0 v.names, beside g q.1 (nothing_of t.1)))
    variables_end v (shifted {s = s} {b = b} {a = a} e) = shifted (more a b (nothing_of (type_of g v.of s).1) e)

    variables_shift : (v : Variables) {p q : State (Unit {0}) g.Reported} → Shifted p q
        → Shifted (with_variables g p v) (with_variables g q v)
    variables_shift v z = variables_end v (fold_shifts (begun_name g) (λ x p q z. begun_shifts x z) v.names z)

    locals_end : (v : Variables) {p q : State (Unit {0}) g.Reported} → Shifted p q
        → Shifted (let t = type_of g v.of p.0 in (fold (finished_local t.1) t.0 v.names, beside g p.1 (nothing_of t.1)))
        (let t = type_of g v.of q.0 in (fold (finished_local t.1) t.0 v.names, beside g q.1 (nothing_of t.1)))
    locals_end v (shifted {s = s} {b = b} {a = a} e) = shifted (more a b (nothing_of (type_of g v.of s).1) e)

    locals_shift : (v : Variables) {p q : State (Unit {0}) g.Reported} → Shifted p q
        → Shifted (with_locals g p v) (with_locals g q v)
    locals_shift v z = locals_end v (fold_shifts (begun_name g) (λ x p q z. begun_shifts x z) v.names z)

    all_variables_shift : (vs : List Variables) {p q : State (Unit {0}) g.Reported} → Shifted p q
        → Shifted (with_variables_of g p vs) (with_variables_of g q vs)
    all_variables_shift vs (shifted {s = s} {b = b} {a = a} e) = by (s.level == 0)
      where
        by : (t : Bool) → Shifted (cond t (fold (with_variables g) (s, b) vs) (fold (with_locals g) (s, b) vs))
            (cond t (fold (with_variables g) (s, a) vs) (fold (with_locals g) (s, a) vs))
        by true = fold_shifts (with_variables g) (λ x p q z. variables_shift x z) vs (shifted e)
        by false = fold_shifts (with_locals g) (λ x p q z. locals_shift x z) vs (shifted e)

    goes_on : (n : ℕ) {p q : State (Unit {0}) g.Reported} → Shifted p q → Moved (going_on p n) (going_on q n)
    goes_on n (shifted e) = moved e

    layer_moves : (ends : List ℕ) (y : Decl-F Decl Block) {c d : Course g.Reported} → Moved c d
        → Moved (decl_layer g ends c y) (decl_layer g ends d y)
    layer_moves ends (layer.Constants cs) (moved {n = n} e) =
        goes_on n (fold_shifts (with_constant g) (λ x p q z. constant_shifts x z) cs (shifted e))
    layer_moves ends (layer.Types ts) (moved {n = n} e) =
        goes_on n (fold_shifts (with_type g) (λ x p q z. type_shifts x z) ts (shifted e))
    layer_moves ends (layer.Variables vs) (moved {n = n} e) = goes_on n (all_variables_shift vs (shifted e))
    layer_moves ends (layer.Procedure h k) (moved {b = b} {a = a} e) = moved (more a b _ e)

    all_move : (ends : List ℕ) (ds : List Decl) {c d : Course g.Reported} → Moved c d
        → Moved (fold (with_decl g ends) c ds) (fold (with_decl g ends) d ds)
    all_move ends [] z = z
    all_move ends (d ∷ ds) z = all_move ends ds (layer_moves ends (out-Decl d) z)

    -- ---- reading again

    data Passed : Passing g.Reported → Passing g.Reported → Type 0 where
      passed_on : {b a : R} {n : ℕ} → a ≡ beside g r b → Passed (b, n) (a, n)

    abbrev Passing_on : Passes g → Type 0
    Passing_on f = (s : Scope g.Reported) (p q : Passing g.Reported) → Passed p q → Passed (f s p) (f s q)

    value_passes : (e : Expr) → Passing_on (λ s p. again_value g s e p)
    value_passes e s _ _ (passed_on {b = b} {a = a} {n = n} z) =
        passed_on (more a b (reported_at g (inwards s n) e) z)

    simple_passes : (x : Simple) → Passing_on (again_simple g x)
    simple_passes (simple.Named n) s p q z = z
    simple_passes (simple.Enumeration at names) s _ _ (passed_on z) = passed_on z
    simple_passes (simple.Subrange of at low high) s p q z =
        value_passes high s (again_value g s low p) (again_value g s low q) (value_passes low s p q z)

    abbrev PT : TypeExpr → Passes g → Type 0
    PT t f = Passing_on f

    abbrev PF : Field → Passes g → Type 0
    PF d f = Passing_on f

    abbrev ST : Type 0
    ST = Typed (again_type g) (again_field g) PT PF

    abbrev SF : Type 0
    SF = Fielded (again_type g) (again_field g) PT PF

    abbrev shut : TypeExpr-F ST SF → TypeExpr-F TypeExpr Field
    shut y = bare (again_type g) (again_field g) PT PF y

    fields_pass : (fs : List SF) (s : Scope g.Reported) (p q : Passing g.Reported) → Passed p q
        → Passed (fold (then_passes g s) p (map (again_field g) (map (λ (f : SF). f.0) fs)))
        (fold (then_passes g s) q (map (again_field g) (map (λ (f : SF). f.0) fs)))
    fields_pass [] s p q z = z
    fields_pass (f ∷ fs) s p q z = fields_pass fs s (again_field g f.0 s p) (again_field g f.0 s q) (f.1 s p q z)

    type_step : (y : TypeExpr-F ST SF) → Passing_on (again.type_layer g (again_opened g (shut y)))
    type_step (type_layer.Simple x) s p q z = simple_passes x s p q z
    type_step (type_layer.Array at index t) s p q z =
        t.1 s (again_simple g index s p) (again_simple g index s q) (simple_passes index s p q z)
    type_step (type_layer.Record at fields) s p q z = fields_pass fields s p q z
    type_step (type_layer.Procedure at formals t) s p q z = z

    type_passes : (t : TypeExpr) → Passing_on (again_type g t)
    type_passes = all_trees (again_type g) (again_field g) PT PF (again.type_layer g) (again.field_layer g) (again_at g)
        (again_fields_at g) type_step (λ y s p q z. y.of.1 s p q z)

    module _ (s : Scope g.Reported) where
      fold_passes : {X : Type 0} (f : Passing g.Reported → X → Passing g.Reported)
          → ((x : X) (p q : Passing g.Reported) → Passed p q → Passed (f p x) (f q x))
          → (xs : List X) {p q : Passing g.Reported} → Passed p q → Passed (fold f p xs) (fold f q xs)
      fold_passes f h [] z = z
      fold_passes f h (x ∷ xs) {p = p} {q = q} z = fold_passes f h xs (h x p q z)

      constant_passes : (c : Constant) (p q : Passing g.Reported) → Passed p q
          → Passed (again_constant g s p c) (again_constant g s q c)
      constant_passes c _ _ (passed_on {b = b} {a = a} {n = n} z) =
          passed_on (more a b (reported_at g (inwards s n) c.value) z)

      declared_passes : (d : TypeDecl) (p q : Passing g.Reported) → Passed p q
          → Passed (again_declared g s p d) (again_declared g s q d)
      declared_passes d _ _ (passed_on z) = type_passes d.of s _ _ (passed_on z)

      variables_pass : (v : Variables) (p q : Passing g.Reported) → Passed p q
          → Passed (again_variables g s p v) (again_variables g s q v)
      variables_pass v _ _ (passed_on z) = type_passes v.of s _ _ (passed_on z)

      layer_passes : (y : Decl-F Decl Block) (p q : Passing g.Reported) → Passed p q
          → Passed (again_layer g s p y) (again_layer g s q y)
      layer_passes (layer.Constants cs) p q z = fold_passes (again_constant g s) constant_passes cs z
      layer_passes (layer.Types ts) p q z = fold_passes (again_declared g s) declared_passes ts z
      layer_passes (layer.Variables vs) p q z = fold_passes (again_variables g s) variables_pass vs z
      layer_passes (layer.Procedure h k) _ _ (passed_on z) = passed_on z

      decls_pass : (ds : List Decl) {p q : Passing g.Reported} → Passed p q
          → Passed (fold (again_decl g s) p ds) (fold (again_decl g s) q ds)
      decls_pass = fold_passes (again_decl g s) (λ d p q z. layer_passes (out-Decl d) p q z)

    passed_is : {p q : Passing g.Reported} → Passed p q → q.0 ≡ beside g r p.0
    passed_is (passed_on e) = e

    moved_is : (ds : List Decl) (n : ℕ) {c d : Course g.Reported} → Moved c d → (d.0 ≡ c.0)
        × ((fold (again_decl g d.0) (d.1, n) ds).0 ≡ beside g r (fold (again_decl g c.0) (c.1, n) ds).0)
    moved_is ds n (moved {s = s} e) = (refl, passed_is (decls_pass s ds (passed_on e)))

    pub block_moves : (ends : List ℕ) (s : Scope g.Reported) (first : ℕ) (ds : List Decl)
        → ((declared_block g ends (s, r) first ds).0 ≡ (declared_block g ends (s, Ok tt) first ds).0)
        × ((declared_block g ends (s, r) first ds).1 ≡ beside g r (declared_block g ends (s, Ok tt) first ds).1)
    block_moves ends s first ds = moved_is ds (length s.own) (all_move ends ds (moved (beside_nothing r)))

module _ (g : Gathers) (j : Judges g) (lawful : Lawful g j) (associates : Associates g) where
  -- what is reported, if more may be repeated
  told : {B O : Breach → Type 0} {r : Result (Unit {0}) g.Reported} → Reports g j (λ f. ⊥) B r → Tells g j lawful O B r
  told (reports_nothing n) = silent n
  told (reports_broken r a) = tells r (record
      { only = λ f m. elim (a.only f m) [ inl b ↦ inl b | inr z ↦ absurd z ]; each = a.each })

  told_too : {B O : Breach → Type 0} {r : Result (Unit {0}) g.Reported} → Reports g j O B r → Tells g j lawful O B r
  told_too (reports_nothing n) = silent n
  told_too (reports_broken r a) = tells r a

  reports : {B O : Breach → Type 0} {r : Result (Unit {0}) g.Reported} → Tells g j lawful O B r → Reports g j O B r
  reports (silent n) = reports_nothing n
  reports (tells r a) = reports_broken r a

  both_reported : {B C O : Breach → Type 0} {a b r : Result (Unit {0}) g.Reported} → Reports g j (λ f. ⊥) B a
      → Reports g j O C b → r ≡ beside g a b → Reports g j O (λ f. B f ⊎ C f) r
  both_reported {B = B} {C = C} {O = O} x y e =
      subst (λ (r : Result (Unit {0}) g.Reported). Reports g j O (λ f. B f ⊎ C f) r) (sym e)
      (reports (beside_tells g j lawful O (told x) (told_too y)))

  pub following_answers : FollowingBlocksAreExact g j
  following_answers own s owns imports exports outside names knows e h taken awaited t ends first ds =
      let i = imports_answer g j lawful own s owns imports in
      let b = i.block exports outside names knows e h taken awaited t ends first ds in
      let m = block_moves g associates (imported_all g s imports).1 ends (imported_all g s imports).0 first ds in (
        b.whole,
        b.in_text,
        (λ behind all. both_reported i.reported (b.reported behind all
            (block_again g j exports names (imported_all g s imports).0 taken awaited t
            (ap (λ (z : Scope g.Reported). z.withs) i.rest ∙ e) ends first ds b behind all)) m.1),
        m.0,
      )
