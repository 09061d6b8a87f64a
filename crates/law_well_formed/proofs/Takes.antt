-- A declaration that breaks no rule takes all names that it marks.
use Rattle.std.proofs.Common.{◌≡◌, ℕ, Bool, true, false, ◌||◌, cond, List, [], ◌∷◌, ◌++◌, Option, Some, None, Result, Ok, Err, refl, sym, ap, subst, ◌∙◌, append_assoc}
use Rattle.std.specs.Prelude.{map}
use Rattle.std.specs.List.{fold}
use Rattle.std.proofs.lemmas.List.{append-nil}
use Rattle.std.proofs.lemmas.List.Folds.{list_any-append}
use Rattle.m2_rule.specs.declared.rule.Rule.TheVariants as rule
use Rattle.m2_tree.specs.declared.pos.Pos.{Pos}
use Rattle.m2_tree.specs.declared.name.Ident.{Ident}
use Rattle.m2_tree.specs.declared.decl.Constant.{Constant}
use Rattle.m2_tree.specs.declared.decl.TypeDecl.{TypeDecl}
use Rattle.m2_tree.specs.declared.decl.Variables.{Variables}
use Rattle.m2_tree.specs.declared.decl.Def.{Def}
use Rattle.m2_tree.specs.declared.decl.Def.TheVariants as def
use Rattle.m2_tree.specs.declared.decl.Simple.{Simple}
use Rattle.m2_tree.specs.declared.decl.Simple.TheVariants as simple
use Rattle.m2_tree.specs.declared.decl.TypeExpr.{TypeExpr, TypeExpr-F, roll-TypeExpr, out-roll-TypeExpr}
use Rattle.m2_tree.specs.declared.decl.TypeExpr.TheOpen as layer
use Rattle.m2_tree.specs.declared.decl.Field.{Field, Field-F, out-Field, roll-Field, out-roll-Field}
use Rattle.typed_tree.specs.declared.shape.Made.{Made}
use Rattle.typed_tree.specs.declared.types.TypeNo.{TypeNo}
use Rattle.m2_tree.specs.Names.{same_name}
use Rattle.typed_tree.specs.Names.{find_name}
use Rattle.typed_tree.specs.Known.{cells_at}
use Rattle.check_scope.specs.Elaborated.{Gathers, report, both, beside, ◌▷◌}
use Rattle.check_scope.specs.Scopes.{State, is_free, with_known, unless_declared, begin_name, unless_marked, mark_name}
use Rattle.check_scope.specs.declared.known.Known.{Known}
use Rattle.check_scope.specs.declared.known.Known.TheVariants.{Later, Ahead, Begun}
use Rattle.check_scope.specs.declared.scope.Scope.{Scope}
use Rattle.check_type_expr.specs.declared.field.Fields.{Fields}
use Rattle.check_type_expr.specs.Fields.{no_fields, with_name}
use Rattle.check_type_expr.specs.Made.{next_type, with_shape, with_made, enumeration_scalar, too_many, enumerate_name, simple_type, index_type, array_of, field_type, nothing_of, record_of, Makes, MakesFields, then_fields, type_layer, field_layer, fields_named, type_of, field_list}
use Rattle.check_definition.specs.Marking.{Marks, marked_later, marked_simple, then_marks, marked_in, marked_field, marked_constant, marked_type, marked_variables, marked_def}
use Rattle.check_definition.specs.Marking as marking
use Rattle.check_definition.specs.Declare.{with_constant, with_type, begun_name, with_variables, with_def}
use Rattle.law_folds.proofs.TypeFolds.{Typed, bare, bare_field, all_trees, marks_opened, marks_opened_field, marks_at, marks_at_field, types_opened, fields_opened, types_at, fields_at}
use Rattle.law_folds.proofs.TypeFolds.{Fielded as WithFields}
use Rattle.law_folds.proofs.MarkSteps.{KeepsMarks, def_marks, defs_marks}
use Rattle.law_well_formed.proofs.ImportsLists.{same_is}
use Rattle.law_well_formed.proofs.Order.{has, mark_key, keys, keys_entered, Distinct, distinct_entered, TakenIn, now_taken, is_taken, number_of, NoneDone, none_entered, AllTaken}
use Rattle.law_well_formed.proofs.TablesSteps.{mark_more, Goes, same_goes, ◌⨾◌, fold_goes, made_goes, listed_goes, type_of_goes, field_list_goes, constant_ends, type_finished, type_ends, constant_goes, type_decl_goes, begun_all_go, variables_end, variables_go}

-- ---- what is reported

module _ (g : Gathers) where
  pub beside_left : (a b : Result (Unit {0}) g.Reported) → beside g a b ≡ Ok tt → a ≡ Ok tt
  beside_left (Ok x) b e = refl
  beside_left (Err x) (Ok y) e = absurd cc
  beside_left (Err x) (Err y) e = absurd cc

  pub beside_right : (a b : Result (Unit {0}) g.Reported) → beside g a b ≡ Ok tt → b ≡ Ok tt
  beside_right a (Ok x) e = refl
  beside_right (Ok y) (Err x) e = absurd cc
  beside_right (Err y) (Err x) e = absurd cc

  both_left : {A B C : Type 0} (a : Result A g.Reported) (b : Result B g.Reported) (f : A × B → Result C g.Reported)
      (z : C) → (both g a b ▷ f) ≡ Ok z → (x : A) × (a ≡ Ok x)
  both_left (Ok x) b f z e = (x, refl)
  both_left (Err x) (Ok y) f z e = absurd cc
  both_left (Err x) (Err y) f z e = absurd cc

  both_right : {A B C : Type 0} (a : Result A g.Reported) (b : Result B g.Reported) (f : A × B → Result C g.Reported)
      (z : C) → (both g a b ▷ f) ≡ Ok z → (y : B) × (b ≡ Ok y)
  both_right a (Ok y) f z e = (y, refl)
  both_right (Ok x) (Err y) f z e = absurd cc
  both_right (Err x) (Err y) f z e = absurd cc

pub then_ok : {A B T : Type 0} (r : Result A T) (f : A → Result B T) (z : B) → (r ▷ f) ≡ Ok z → (x : A) × (r ≡ Ok x)
then_ok (Ok x) f z e = (x, refl)
then_ok (Err x) f z e = absurd cc

made_ok : {T : Type 0} (s : Scope T) (r : Result Made T) (t : TypeNo) → (with_made s r).1 ≡ Ok t → (x : Made)
    × (r ≡ Ok x)
made_ok s (Ok x) t e = (x, refl)
made_ok s (Err x) t e = absurd cc

-- ---- names that are marked

all_by : {T : Type 0} (fin : List (List ℕ × Known T)) (name : List ℕ) (b : Bool) (ks : List (List ℕ)) → AllTaken ks fin
    → TakenIn fin name → AllTaken (cond b ks (ks ++ name ∷ [])) fin
all_by fin name true ks all t = all
all_by fin name false ks all t = λ y h. by y (has y ks) refl
    (sym (list_any-append (λ (k : List ℕ). same_name y k) ks (name ∷ [])) ∙ h) where
      last : (y : List ℕ) (b : Bool) → same_name y name ≡ b → (b || false) ≡ true → TakenIn fin y
      last y true q h = subst (λ (z : List ℕ). TakenIn fin z) (sym (same_is y name q)) t
      last y false q h = absurd cc

      by : (y : List ℕ) (b : Bool) → has y ks ≡ b → (b || (same_name y name || false)) ≡ true → TakenIn fin y
      by y true q h = all y q
      by y false q h = last y (same_name y name) refl h

pub all_marked : {T : Type 0} (fin : List (List ℕ × Known T)) (name : List ℕ) (ks : List (List ℕ)) → AllTaken ks fin
    → TakenIn fin name → AllTaken (mark_key ks name) fin
all_marked fin name ks all t = all_by fin name (has name ks) ks all t

module _ {T : Type 0} where
  found_cond : (name : List ℕ) (b : Bool) (k v : Known T) (o : Option (Known T)) (rest : Bool)
      → cond b (Some k) o ≡ Some v → (o ≡ Some v → rest ≡ true) → (b || rest) ≡ true
  found_cond name true k v o rest e f = refl
  found_cond name false k v o rest e f = f e

  found_has : (name : List ℕ) (es : List (List ℕ × Known T)) (v : Known T) → find_name name es ≡ Some v
      → has name (keys es) ≡ true
  found_has name [] v e = absurd cc
  found_has name (x ∷ es) v e = found_cond name (same_name name x.0) x.1 v (find_name name es) (has name (keys es)) e
      (found_has name es v)

  marked_by : (name : List ℕ) (k : Known T) (s : Scope T) (o : Option (Known T)) → find_name name s.own ≡ o
      → keys (unless_marked name k s o).own ≡ mark_key (keys s.own) name
  marked_by name k s (Some v) e = ap (λ (b : Bool). cond b (keys s.own) (keys s.own ++ name ∷ []))
      (sym (found_has name s.own v e))
  marked_by name k s None e = keys_entered name k s.own

  pub marked_keys : (name : Ident) (k : Known T) (s : Scope T)
      → keys (mark_name name k s).own ≡ mark_key (keys s.own) name.name
  marked_keys name k s = marked_by name.name k s (find_name name.name s.own) refl

  -- where the names of one scope are taken, those of the other are
  abbrev pub Covers : List (List ℕ × Known T) → Marks T → Type 0
  Covers fin f = (s : Scope T) → AllTaken (keys s.own) fin → AllTaken (keys (f s).own) fin

  pub name_covers : (fin : List (List ℕ × Known T)) (name : Ident) (k : Known T) → TakenIn fin name.name
      → Covers fin (λ s. mark_name name k s)
  name_covers fin name k t s all = subst (λ (ks : List (List ℕ)). AllTaken ks fin) (sym (marked_keys name k s))
      (all_by fin name.name (has name.name (keys s.own)) (keys s.own) all t)

  -- ---- what marks keep

  pub record Keeps (s s' : Scope T) : Type 0 where
    pub procedures : s'.procedures ≡ s.procedures
    pub distinct : Distinct s.own → Distinct s'.own
    pub none : NoneDone s.own → NoneDone s'.own
    pub more : List (List ℕ)
    pub keys_are : keys s'.own ≡ keys s.own ++ more

  pub same_keeps : (s : Scope T) → Keeps s s
  same_keeps s = record {
    procedures = refl;
    distinct = λ d. d;
    none = λ n. n;
    more = [];
    keys_are =
        sym (append-nil (keys s.own));
  }

  pub keeps_then : {a b c : Scope T} → Keeps a b → Keeps b c → Keeps a c
  keeps_then {a} {b} {c} p q = record {
    procedures = q.procedures ∙ p.procedures;
    distinct = λ d. q.distinct (p.distinct d);
    none = λ n. q.none (p.none n);
    more = p.more ++ q.more;
    keys_are = q.keys_are ∙ ap (λ (ks : List (List ℕ)). ks ++ q.more) p.keys_are
        ∙ append_assoc (keys a.own) p.more q.more;
  }

  new_keeps : (s : Scope T) (name : List ℕ) (k : Known T) → number_of k ≡ None → Keeps s (with_known name k s)
  new_keeps s name k e =
      let m = mark_more name (has name (keys s.own)) (keys s.own) in
      record {
        procedures = refl;
        distinct = λ d. distinct_entered name k s.own d;
        none = λ n. none_entered name k s.own e n;
        more = m.0;
        keys_are = keys_entered name k s.own ∙ m.1;
      }

  marks : KeepsMarks {T = T} Keeps
  marks = record {
    order = record { same = same_keeps; next = λ a b c p q. keeps_then p q };
    later = λ s name e. new_keeps s name Later refl;
    ahead = λ s name e. new_keeps s name Ahead refl;
  }

module _ (T : Type 0) where
  pub def_keeps : (s : Scope T) (d : Def) → Keeps s (marked_def s d)
  def_keeps = def_marks marks

  pub defs_keep : (ds : List Def) (s : Scope T) → Keeps s (fold marked_def s ds)
  defs_keep = defs_marks marks

-- ---- declarations that break no rule

module _ (g : Gathers) where
  abbrev pub Own : Type 0
  Own = List (List ℕ × Known g.Reported)

  -- what is taken in one list is taken in the other
  abbrev pub Within : Own → Own → Type 0
  Within own fin = (y : List ℕ) → TakenIn own y → TakenIn fin y

  unless_by : (b : Bool) (s : Scope g.Reported) (name : Ident) (k : Known g.Reported) → is_taken k ≡ true
      → (cond {A = State (Unit {0}) g.Reported} b (with_known name.name k s, Ok tt)
      (s, report g name.pos rule.DeclaredTwice)).1 ≡ Ok tt
      → TakenIn (cond {A = State (Unit {0}) g.Reported} b (with_known name.name k s, Ok tt)
      (s, report g name.pos rule.DeclaredTwice)).0.own name.name
  unless_by true s name k t e = now_taken name.name k s.own t
  unless_by false s name k t e = absurd cc

  pub unless_takes : (s : Scope g.Reported) (name : Ident) (k : Known g.Reported) → is_taken k ≡ true
      → (unless_declared g s name k).1 ≡ Ok tt → TakenIn (unless_declared g s name k).0.own name.name
  unless_takes s name k t e = unless_by (is_free (find_name name.name s.own)) s name k t e

  begun_takes : (s : Scope g.Reported) (name : Ident) → (begin_name g s name).1 ≡ Ok tt
      → TakenIn (begin_name g s name).0.own name.name
  begun_takes s name e = unless_takes s name Begun refl e

  -- ---- enumerations

  abbrev Listed : Type 0
  Listed = Scope g.Reported × ℕ × Result (Unit {0}) g.Reported

  listed_reported : (t : TypeNo) (names : List Ident) (l : Listed) → (fold (enumerate_name g t) l names).2 ≡ Ok tt
      → l.2 ≡ Ok tt
  listed_reported t [] l e = e
  listed_reported t (x ∷ xs) l e = beside_left g l.2 _ (listed_reported t xs (enumerate_name g t l x) e)

  listed_all : (t : TypeNo) (names : List Ident) (l : Listed) → Goes l.0 (fold (enumerate_name g t) l names).0
  listed_all t names l = fold_goes (λ (l : Listed). l.0) (enumerate_name g t) (listed_goes g t) names l

  listed_take : (t : TypeNo) (names : List Ident) (l : Listed) → (fold (enumerate_name g t) l names).2 ≡ Ok tt
      → (fin : Own) → Within (fold (enumerate_name g t) l names).0.own fin → Covers fin (λ s. fold marked_later s names)
  listed_take t [] l e fin w s all = all
  listed_take t (x ∷ xs) l e fin w s all =
      let next : Listed = enumerate_name g t l x in
      let ok : next.2 ≡ Ok tt = listed_reported t xs next e in
      let here : TakenIn next.0.own x.name = unless_takes l.0 x _ refl (beside_right g l.2 _ ok) in
      listed_take t xs next e fin w (marked_later s x)
      (name_covers fin x Later (w x.name ((listed_all t xs next).taken x.name here)) s all)

  simple_takes : (s : Scope g.Reported) (t : Simple) (x : TypeNo) → (simple_type g s t).1 ≡ Ok x → (fin : Own)
      → Within (simple_type g s t).0.own fin → Covers fin (λ s. marked_simple t s)
  simple_takes s (simple.Named q) x e fin w z all = all
  simple_takes s (simple.Enumeration at names) x e fin w z all =
      let l : Listed = (with_shape s (enumeration_scalar (next_type s) names), 0, too_many g names) in
      let k = then_ok (fold (enumerate_name g (next_type s)) l names).2 (λ fine. Ok (next_type s)) x e in
      listed_take (next_type s) names l k.1 fin w z all
  simple_takes s (simple.Subrange o at low high) x e fin w z all = all

  -- ---- types

  abbrev Takes : Makes g → Marks g.Reported → Type 0
  Takes f marks = (s : Scope g.Reported) (x : TypeNo) → (f s).1 ≡ Ok x → (fin : Own) → Within (f s).0.own fin
      → Covers fin marks

  abbrev Fielded : Type 0
  Fielded = Scope g.Reported × Fields × Result (Unit {0}) g.Reported

  abbrev TakesFields : MakesFields g → Marks g.Reported → Type 0
  TakesFields f marks = (st : Fielded) → (f st).2 ≡ Ok tt → (fin : Own) → Within (f st).0.own fin → Covers fin marks

  abbrev PT : TypeExpr → Makes g → Type 0
  PT t f = Takes f (marked_in t)

  abbrev PF : Field → MakesFields g → Type 0
  PF d f = TakesFields f (marked_field d)

  abbrev ST : Type 0
  ST = Typed (type_of g) (field_list g) PT PF

  abbrev SF : Type 0
  SF = WithFields (type_of g) (field_list g) PT PF

  abbrev stripped : TypeExpr-F ST SF → TypeExpr-F TypeExpr Field
  stripped y = bare (type_of g) (field_list g) PT PF y

  abbrev stripped_field : Field-F ST SF → Field-F TypeExpr Field
  stripped_field y = bare_field (type_of g) (field_list g) PT PF y

  names_reported : (t : TypeNo) (cells : ℕ) (names : List Ident) (st : Fields × Result (Unit {0}) g.Reported)
      → (fold (with_name g t cells) st names).1 ≡ Ok tt → st.1 ≡ Ok tt
  names_reported t cells [] st e = e
  names_reported t cells (x ∷ xs) st e = beside_left g st.1 _ (names_reported t cells xs (with_name g t cells st x) e)

  -- of the fields of one list: what was reported before, and of their type
  fields_reported : (m : State TypeNo g.Reported) (names : List Ident) (fs : Fields)
      (before : Result (Unit {0}) g.Reported) → (fields_named g m names fs before).2 ≡ Ok tt
      → beside g before (nothing_of m.1) ≡ Ok tt
  fields_reported m names fs before e = let of : TypeNo = field_type m.1 in
      names_reported of (cells_at m.0.types of) names (fs, beside g before (nothing_of m.1)) e

  field_reported : (f : Field) (st : Fielded) → (field_list g f st).2 ≡ Ok tt → st.2 ≡ Ok tt
  field_reported f st e =
      let of : State TypeNo g.Reported = type_of g (out-Field f).of st.0 in
      beside_left g st.2 (nothing_of of.1)
      (fields_reported of (out-Field f).names st.1 st.2
      (subst (λ (y : MakesFields g). (y st).2 ≡ Ok tt) (fields_at g f (out-Field f) refl) e))

  abbrev all_fields : List SF → Fielded → Fielded
  all_fields fs st = fold (then_fields g) st (map (field_list g) (map (λ (f : SF). f.0) fs))

  all_reported : (fs : List SF) (st : Fielded) → (all_fields fs st).2 ≡ Ok tt → st.2 ≡ Ok tt
  all_reported [] st e = e
  all_reported (f ∷ fs) st e = field_reported f.0 st (all_reported fs (field_list g f.0 st) e)

  all_go : (fs : List SF) (st : Fielded) → Goes st.0 (all_fields fs st).0
  all_go [] st = same_goes st.0
  all_go (f ∷ fs) st = all_go fs (field_list g f.0 st) ⨾ field_list_goes g f.0 st

  all_take : (fs : List SF) (st : Fielded) → (all_fields fs st).2 ≡ Ok tt → (fin : Own)
      → Within (all_fields fs st).0.own fin →
      Covers fin (λ s. fold then_marks s (map marked_field (map (λ (f : SF). f.0) fs)))
  all_take [] st e fin w s all = all
  all_take (f ∷ fs) st e fin w s all =
      let next : Fielded = field_list g f.0 st in
      all_take fs next e fin w (marked_field f.0 s)
      (f.1 st (all_reported fs next e) fin (λ y h. w y ((all_go fs next).taken y h)) s all)

  array_takes : (at : Pos) (index : Simple) (t : ST)
      → Takes (type_layer g (layer.Array at index (type_of g t.0))) (λ s. marked_in t.0 (marked_simple index s))
  array_takes at index t s x e fin w z all =
      let i : State TypeNo g.Reported = index_type g s index in
      let of : State TypeNo g.Reported = type_of g t.0 i.0 in
      let made = made_ok of.0 (array_of g of.0.types at i.1 of.1) x e in
      let a = both_left g i.1 of.1 _ made.0 made.1 in
      let b = both_right g i.1 of.1 _ made.0 made.1 in
      let c = then_ok (simple_type g s index).1 _ a.0 a.1 in
      let last : Goes of.0 (with_made of.0 (array_of g of.0.types at i.1 of.1)).0 =
      made_goes of.0 (array_of g of.0.types at i.1 of.1) in
      t.1 i.0 b.0 b.1 fin (λ y h. w y (last.taken y h)) (marked_simple index z)
      (simple_takes s index c.0 c.1 fin (λ y h. w y (last.taken y ((type_of_goes g t.0 i.0).taken y h))) z all)

  record_takes : (at : Pos) (fields : List SF)
      → Takes (type_layer g (layer.Record at (map (field_list g) (map (λ (f : SF). f.0) fields))))
      (λ s. fold then_marks s (map marked_field (map (λ (f : SF). f.0) fields)))
  record_takes at fields s x e fin w z all =
      let st : Fielded = all_fields fields (s, no_fields, Ok tt) in
      let made = made_ok st.0 (record_of g at st.1 st.2) x e in
      let k = then_ok st.2 _ made.0 made.1 in
      all_take fields (s, no_fields, Ok tt) k.1 fin (λ y h. w y ((made_goes st.0 (record_of g at st.1 st.2)).taken y h))
      z all

  type_takes : (y : TypeExpr-F ST SF)
      → Takes (type_layer g (types_opened g (stripped y))) (marking.type_layer (marks_opened (stripped y)))
  type_takes (layer.Simple t) = λ s x e fin w z all. simple_takes s t x e fin w z all
  type_takes (layer.Array at index t) = array_takes at index t
  type_takes (layer.Record at fields) = record_takes at fields
  type_takes (layer.Procedure at formals t) = λ s x e fin w z all. all

  field_takes : (y : Field-F ST SF)
      → TakesFields (field_layer g (fields_opened g (stripped_field y)))
      (marking.field_layer (marks_opened_field (stripped_field y)))
  field_takes y st e fin w z all =
      let of : State TypeNo g.Reported = type_of g y.of.0 st.0 in
      let k = then_ok of.1 (λ x. Ok tt) tt (beside_right g st.2 (nothing_of of.1)
      (fields_reported of y.names st.1 st.2 e)) in
      y.of.1 st.0 k.0 k.1 fin w z all

  type_step : (y : TypeExpr-F ST SF) → PT (roll-TypeExpr (stripped y)) (type_layer g (types_opened g (stripped y)))
  type_step y =
      let x : TypeExpr-F TypeExpr Field = stripped y in
      subst (λ (m : Marks g.Reported). Takes (type_layer g (types_opened g x)) m)
      (sym (marks_at (roll-TypeExpr x) x (out-roll-TypeExpr x))) (type_takes y)

  field_step : (y : Field-F ST SF)
      → PF (roll-Field (stripped_field y)) (field_layer g (fields_opened g (stripped_field y)))
  field_step y =
      let x : Field-F TypeExpr Field = stripped_field y in
      subst (λ (m : Marks g.Reported). TakesFields (field_layer g (fields_opened g x)) m)
      (sym (marks_at_field (roll-Field x) x (out-roll-Field x))) (field_takes y)

  type_of_takes : (t : TypeExpr) → PT t (type_of g t)
  type_of_takes =
      all_trees (type_of g) (field_list g) PT PF (type_layer g) (field_layer g) (types_at g)
      (fields_at g) type_step field_step

  -- ---- constants, types and variables

  constants_reported : (cs : List Constant) (st : State (Unit {0}) g.Reported)
      → (fold (with_constant g) st cs).1 ≡ Ok tt → st.1 ≡ Ok tt
  constants_reported [] st e = e
  constants_reported (c ∷ cs) st e = beside_left g st.1 _ (constants_reported cs (with_constant g st c) e)

  types_reported : (ts : List TypeDecl) (st : State (Unit {0}) g.Reported) → (fold (with_type g) st ts).1 ≡ Ok tt
      → st.1 ≡ Ok tt
  types_reported [] st e = e
  types_reported (t ∷ ts) st e = beside_left g st.1 _ (types_reported ts (with_type g st t) e)

  begun_reported : (names : List Ident) (st : State (Unit {0}) g.Reported) → (fold (begun_name g) st names).1 ≡ Ok tt
      → st.1 ≡ Ok tt
  begun_reported [] st e = e
  begun_reported (x ∷ xs) st e = beside_left g st.1 _ (begun_reported xs (begun_name g st x) e)

  variables_reported : (vs : List Variables) (st : State (Unit {0}) g.Reported)
      → (fold (with_variables g) st vs).1 ≡ Ok tt → st.1 ≡ Ok tt
  variables_reported [] st e = e
  variables_reported (v ∷ vs) st e = begun_reported v.names st
      (beside_left g (fold (begun_name g) st v.names).1 _ (variables_reported vs (with_variables g st v) e))

  constant_takes : (st : State (Unit {0}) g.Reported) (c : Constant) → (with_constant g st c).1 ≡ Ok tt → (fin : Own)
      → Within (with_constant g st c).0.own fin → Covers fin (λ s. marked_constant s c)
  constant_takes st c e fin w =
      let b : State (Unit {0}) g.Reported = begin_name g st.0 c.name in
      let ok : b.1 ≡ Ok tt = beside_left g b.1 _ (beside_right g st.1 _ e) in
      name_covers fin c.name Later (w c.name.name
      ((constant_ends g b.0 c).taken c.name.name (begun_takes st.0 c.name ok)))

  type_decl_takes : (st : State (Unit {0}) g.Reported) (d : TypeDecl) → (with_type g st d).1 ≡ Ok tt → (fin : Own)
      → Within (with_type g st d).0.own fin → Covers fin (λ s. marked_type s d)
  type_decl_takes st d e fin w s all =
      let b : State (Unit {0}) g.Reported = begin_name g st.0 d.name in
      let t : State TypeNo g.Reported = type_of g d.of b.0 in
      let both : beside g b.1 (nothing_of t.1) ≡ Ok tt = beside_right g st.1 _ e in
      let k = then_ok t.1 (λ x. Ok tt) tt (beside_right g b.1 (nothing_of t.1) both) in
      type_of_takes d.of b.0 k.0 k.1 fin (λ y h. w y ((type_finished g b.0 d).taken y h)) (mark_name d.name Later s)
      (name_covers fin d.name Later (w d.name.name
      ((type_ends g b.0 d).taken d.name.name (begun_takes st.0 d.name (beside_left g b.1 (nothing_of t.1) both)))) s
      all)

  begun_take : (names : List Ident) (st : State (Unit {0}) g.Reported) → (fold (begun_name g) st names).1 ≡ Ok tt
      → (fin : Own) → Within (fold (begun_name g) st names).0.own fin → Covers fin (λ s. fold marked_later s names)
  begun_take [] st e fin w s all = all
  begun_take (x ∷ xs) st e fin w s all =
      let next : State (Unit {0}) g.Reported = begun_name g st x in
      let ok : (begin_name g st.0 x).1 ≡ Ok tt = beside_right g st.1 _ (begun_reported xs next e) in
      begun_take xs next e fin w (marked_later s x)
      (name_covers fin x Later (w x.name ((begun_all_go g xs next).taken x.name (begun_takes st.0 x ok))) s all)

  variables_take : (st : State (Unit {0}) g.Reported) (v : Variables) → (with_variables g st v).1 ≡ Ok tt → (fin : Own)
      → Within (with_variables g st v).0.own fin → Covers fin (λ s. marked_variables s v)
  variables_take st v e fin w s all =
      let b : State (Unit {0}) g.Reported = fold (begun_name g) st v.names in
      let t : State TypeNo g.Reported = type_of g v.of b.0 in
      let k = then_ok t.1 (λ x. Ok tt) tt (beside_right g b.1 (nothing_of t.1) e) in
      let last = variables_end g b.0 v in
      type_of_takes v.of b.0 k.0 k.1 fin (λ y h. w y (last.taken y h)) (fold marked_later s v.names)
      (begun_take v.names st (beside_left g b.1 (nothing_of t.1) e) fin
      (λ y h. w y (last.taken y ((type_of_goes g v.of b.0).taken y h))) s all)

  -- ---- lists of them

  module _ {X : Type 0} (f : State (Unit {0}) g.Reported → X → State (Unit {0}) g.Reported)
      (marks : Scope g.Reported → X → Scope g.Reported)
      (goes : (st : State (Unit {0}) g.Reported) (x : X) → Goes st.0 (f st x).0)
      (says : (xs : List X) (st : State (Unit {0}) g.Reported) → (fold f st xs).1 ≡ Ok tt → st.1 ≡ Ok tt)
      (takes : (st : State (Unit {0}) g.Reported) (x : X) → (f st x).1 ≡ Ok tt → (fin : Own)
      → Within (f st x).0.own fin → Covers fin (λ s. marks s x)) where
    fold_takes : (xs : List X) (st : State (Unit {0}) g.Reported) → (fold f st xs).1 ≡ Ok tt → (fin : Own)
        → Within (fold f st xs).0.own fin → Covers fin (λ s. fold marks s xs)
    fold_takes [] st e fin w s all = all
    fold_takes (x ∷ xs) st e fin w s all =
        fold_takes xs (f st x) e fin w (marks s x)
        (takes st x (says xs (f st x) e) fin (λ y h. w y
        ((fold_goes (λ (st : State (Unit {0}) g.Reported). st.0) f goes xs (f st x)).taken y h)) s all)

  pub constants_all : (cs : List Constant) (st : State (Unit {0}) g.Reported) → (fold (with_constant g) st cs).1 ≡ Ok tt
      → (fin : Own) → Within (fold (with_constant g) st cs).0.own fin → Covers fin (λ s. fold marked_constant s cs)
  constants_all = fold_takes (with_constant g) marked_constant (constant_goes g) constants_reported constant_takes

  pub types_all : (ts : List TypeDecl) (st : State (Unit {0}) g.Reported) → (fold (with_type g) st ts).1 ≡ Ok tt
      → (fin : Own) → Within (fold (with_type g) st ts).0.own fin → Covers fin (λ s. fold marked_type s ts)
  types_all = fold_takes (with_type g) marked_type (type_decl_goes g) types_reported type_decl_takes

  pub variables_all : (vs : List Variables) (st : State (Unit {0}) g.Reported)
      → (fold (with_variables g) st vs).1 ≡ Ok tt → (fin : Own) → Within (fold (with_variables g) st vs).0.own fin
      → Covers fin (λ s. fold marked_variables s vs)
  variables_all = fold_takes (with_variables g) marked_variables (variables_go g) variables_reported variables_take

  pub def_reported : (st : State (Unit {0}) g.Reported) (d : Def) → (with_def g st d).1 ≡ Ok tt → st.1 ≡ Ok tt
  def_reported st (def.Constants cs) e = constants_reported cs st e
  def_reported st (def.Types ts) e = types_reported ts st e
  def_reported st (def.Variables vs) e = variables_reported vs st e
  def_reported st (def.Procedure h) e = beside_left g st.1 _ e

  pub defs_reported : (ds : List Def) (st : State (Unit {0}) g.Reported) → (fold (with_def g) st ds).1 ≡ Ok tt
      → st.1 ≡ Ok tt
  defs_reported [] st e = e
  defs_reported (d ∷ ds) st e = def_reported st d (defs_reported ds (with_def g st d) e)
