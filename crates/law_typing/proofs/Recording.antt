-- Records are answered exactly.
use Rattle.std.proofs.Common.{◌≡◌, ℕ, suc, Bool, true, false, cond, List, [], ◌∷◌, ◌++◌, length, Some, Result, Ok, Err, ◌⊎◌, inl, inr, refl, sym, ap, subst, ◌∙◌, arith}
use Rattle.std.specs.Prelude.{◌+◌, ◌*◌, map, nat_lt}
use Rattle.std.specs.List.{fold}
use Rattle.std.specs.Option.{is_some}
use Rattle.std.proofs.lemmas.Bool.Decides.{nat_tests}
use Rattle.m2_rule.specs.declared.breach.Breach.{Breach}
use Rattle.m2_rule.specs.declared.rule.Rule.TheVariants as rule
use Rattle.m2_tree.specs.declared.pos.Pos.{Pos}
use Rattle.m2_tree.specs.declared.name.Ident.{Ident}
use Rattle.m2_tree.specs.Names.{same_name}
use Rattle.m2_tree.specs.declared.decl.Field.{Field, out-Field, map-Field, fold_out-Field}
use Rattle.m2_tree.specs.declared.decl.TypeExpr.{TypeExpr, out-TypeExpr}
use Rattle.m2_tree.specs.declared.decl.TypeExpr.TheOpen as layer
use Rattle.typed_tree.specs.declared.types.TypeNo.{TypeNo}
use Rattle.typed_tree.specs.declared.shape.Made.{Made}
use Rattle.typed_tree.specs.declared.known_types.Types.{Types}
use Rattle.typed_tree.specs.Names.{find_name, enter_name}
use Rattle.typed_tree.specs.Known.{cells_at}
use Rattle.check_scope.specs.declared.known.Known.{Known}
use Rattle.check_scope.specs.declared.scope.Scope.{Scope}
use Rattle.check_scope.specs.Elaborated.{Gathers, report, reported_where, beside}
use Rattle.check_type_expr.specs.declared.field.Fields.{Fields}
use Rattle.check_type_expr.specs.Cells.{plus}
use Rattle.check_type_expr.specs.Fields.{no_fields, with_field, with_name}
use Rattle.check_type_expr.specs.Made.{Makes, MakesFields, type_layer, field_layer, type_of, field_list, field_type, nothing_of, fields_named, then_fields, record_of, record_type, with_made}
use Rattle.def_typing.specs.Operators.{◌!◌}
use Rattle.def_typing.specs.Things.{Standing}
use Rattle.def_typing.specs.Parts.{Named}
use Rattle.def_typing.specs.TypeExprs as rules
use Rattle.def_typing.specs.TypeExprs.{Twice, all_listed, constants_in, constants_in_field, with_types, next_type, Added, nothing_added, type_added, both_added, Setting, behind, field_names, fields_of, record_made, IsTypeOf, AreFields, Adds, FieldsAdd, BrokenType, BrokenFields}
use Rattle.law_typing.specs.Judging.{Judges, Answers, means, refuses}
use Rattle.law_typing.specs.Exact.{Knows, Repeats}
use Rattle.law_typing.proofs.Trees.{type_tree, IsTypeTree, tree_simple, tree_array, tree_record, tree_procedure, AreFieldTrees, no_field_tree, one_field_tree}
use Rattle.law_typing.proofs.Combining.{Lawful, Decided, holds, fails_it, decided_as, Checks, passes, stops, checks_as, stopped, beside_checks, then_checked, exact, declined}
use Rattle.law_typing.proofs.Entering.{entered_all}
use Rattle.law_typing.proofs.Heading.{nil_right, append_assoc}
use Rattle.law_typing.proofs.Beginning.{Adding}
use Rattle.law_typing.proofs.Enumerating.{MadeType, scope_with, set_in, Enters, Frees, enters_nothing, enters_both, both_decided, frees_more, knows_more, repeats_more}
use Rattle.law_typing.proofs.TypeReading.{no_types, Is, one_added, constants_at, constants_as, type_at, Read, SizeIs, size_same, size_large, more_repeated, simple_read, simple_type_read, array_read, procedure_read}

-- ---- names of fields

append_new : {V : Type 0} (n : List ℕ) (v : V) (es : List (List ℕ × V)) → is_some (find_name n es) ≡ false
    → enter_name n v es ≡ es ++ (n, v) ∷ []
append_new n v [] h = refl
append_new {V = V} n v (e ∷ es) h = by (same_name n e.0) h (λ q. append_new n v es q)
  where
    by : (b : Bool) → is_some (cond b (Some e.1) (find_name n es)) ≡ false
        → (is_some (find_name n es) ≡ false → enter_name n v es ≡ es ++ (n, v) ∷ [])
        → cond b ((e.0, v) ∷ es) (e ∷ enter_name n v es) ≡ e ∷ (es ++ (n, v) ∷ [])
    by true q k = absurd cc
    by false q k = ap (λ (xs : List (List ℕ × V)). e ∷ xs) (k q)

large_sum : (a b : ℕ) → nat_lt 131072 a ≡ true → nat_lt 131072 (a + b) ≡ true
large_sum a b h = grind (arith, nat_tests, h)

plus_size : (a b m : ℕ) → SizeIs a m → SizeIs (plus a b) (m + b)
plus_size a b m (size_same e) = by (nat_lt 131072 (a + b)) refl
  where
    sum : a + b ≡ m + b
    sum = ap (λ (n : ℕ). n + b) e

    by : (l : Bool) → nat_lt 131072 (a + b) ≡ l → SizeIs (cond l 131073 (a + b)) (m + b)
    by true q = size_large refl (subst (λ (n : ℕ). nat_lt 131072 n ≡ true) sum q)
    by false q = size_same sum
plus_size a b m (size_large h l) = by (nat_lt 131072 (a + b)) (large_sum a b h)
  where
    by : (c : Bool) → c ≡ true → SizeIs (cond c 131073 (a + b)) (m + b)
    by true q = size_large refl (large_sum m b l)
    by false q = absurd cc

-- the names of these fields are found
abbrev pub Listed : (List ℕ → Type 0) → Fields → Type 0
Listed There fs = (n : List ℕ) → Decided (There n) (is_some (find_name n fs.names))

abbrev pub NoTwice : (List ℕ → Type 0) → List Ident → Type 0
NoTwice There xs = (f : Breach) → Twice There xs f → ⊥

module _ (g : Gathers) (j : Judges g) (lawful : Lawful g j) (t : TypeNo) (c : ℕ) where
  -- one name
  data OneName (There : List ℕ → Type 0) (fs : Fields) (x : Ident) : Fields × Result (Unit {0}) g.Reported
      → Type 0 where
    new_name : (There x.name → ⊥) → is_some (find_name x.name fs.names) ≡ false
        → OneName There fs x (record { names = enter_name x.name t fs.names; cells = plus fs.cells c }, Ok tt)
    old_name : There x.name → OneName There fs x (fs, report g x.pos rule.DeclaredTwice)

  one_by : {There : List ℕ → Type 0} (fs : Fields) (x : Ident) (b : Bool) → is_some (find_name x.name fs.names) ≡ b
      → Decided (There x.name) b → OneName There fs x
      (cond b (fs, report g x.pos rule.DeclaredTwice)
      (record { names = enter_name x.name t fs.names; cells = plus fs.cells c }, Ok tt))
  one_by fs x _ e (holds h) = old_name h
  one_by fs x _ e (fails_it n) = new_name n e

  one_name : {There : List ℕ → Type 0} (fs : Fields) (x : Ident) → Listed There fs
      → OneName There fs x (with_field g t c fs x)
  one_name fs x l = one_by fs x (is_some (find_name x.name fs.names)) refl (l x.name)

  abbrev More : Ident → (List ℕ → Type 0) → List ℕ → Type 0
  More x There n = (x.name ≡ n) ⊎ There n

  listed_one : {There : List ℕ → Type 0} {fs : Fields} {x : Ident} {q : Fields × Result (Unit {0}) g.Reported}
      → Listed There fs → OneName There fs x q → Listed (More x There) q.0
  listed_one {There = There} {fs = fs} {x = x} l (new_name n e) =
      entered_all (λ n o. Decided (More x There n) (is_some o)) x.name t fs.names (holds (inl refl))
      (λ n c. decided_as (λ h. inr h) (λ z. elim z [ inl e ↦ absurd (c e) | inr h ↦ h ]) (l n))
  listed_one {There = There} {x = x} l (old_name h) =
      λ n. decided_as (λ z. inr z) (λ z. elim z [ inl e ↦ subst There e h | inr y ↦ y ]) (l n)

  told_one : {O : Breach → Type 0} {P : Type 0} {B : Breach → Type 0} {There : List ℕ → Type 0} {fs : Fields}
      {x : Ident} {r : Result (Unit {0}) g.Reported} {q : Fields × Result (Unit {0}) g.Reported}
      → Checks g j lawful O {A = Unit {0}} P B r → OneName There fs x q
      → Checks g j lawful O {A = Unit {0}} (P × (There x.name → ⊥))
      (λ f. B f ⊎ (There x.name × (f ≡ x.pos ! rule.DeclaredTwice))) (beside g r q.1)
  told_one {O = O} {There = There} {x = x} k (new_name n e) = beside_checks g j lawful O k (passes tt n (λ f z. n z.0))
  told_one {O = O} {There = There} {x = x} k (old_name h) =
      beside_checks g j lawful O k (stopped g j lawful O x.pos rule.DeclaredTwice (λ n. n h) (h, refl) (λ f z. z.1))

  names_one : {There : List ℕ → Type 0} {fs : Fields} {x : Ident} {q : Fields × Result (Unit {0}) g.Reported}
      → (There x.name → ⊥) → OneName There fs x q → q.0.names ≡ fs.names ++ (x.name, t) ∷ []
  names_one {fs = fs} {x = x} n (new_name m e) = append_new x.name t fs.names e
  names_one n (old_name h) = absurd (n h)

  cells_one : {There : List ℕ → Type 0} {fs : Fields} {x : Ident} {q : Fields × Result (Unit {0}) g.Reported} {m : ℕ}
      → (There x.name → ⊥) → OneName There fs x q → SizeIs fs.cells m → SizeIs q.0.cells (m + c)
  cells_one {fs = fs} {m = m} n (new_name k e) s = plus_size fs.cells c m s
  cells_one n (old_name h) s = absurd (n h)

  abbrev pub Entries : Fields → Result (Unit {0}) g.Reported → List Ident → Fields × Result (Unit {0}) g.Reported
  Entries fs r xs = fold (with_name g t c) (fs, r) xs

  -- names of one list

  pub listed_all : (xs : List Ident) {There : List ℕ → Type 0} (fs : Fields) (r : Result (Unit {0}) g.Reported)
      → Listed There fs → Listed (Adding xs There) (Entries fs r xs).0
  listed_all [] fs r l = l
  listed_all (x ∷ xs) fs r l = listed_all xs (with_field g t c fs x).0 (beside g r (with_field g t c fs x).1)
      (listed_one l (one_name fs x l))

  pub told_all : (xs : List Ident) {O : Breach → Type 0} {P : Type 0} {B : Breach → Type 0} {There : List ℕ → Type 0}
      (fs : Fields) (r : Result (Unit {0}) g.Reported) → Listed There fs → Checks g j lawful O {A = Unit {0}} P B r
      → Checks g j lawful O {A = Unit {0}} (P × NoTwice There xs) (λ f. B f ⊎ Twice There xs f) (Entries fs r xs).1
  told_all [] {O = O} fs r l k = checks_as g j lawful O (λ p. (p, λ f z. z)) (λ p. p.0) (λ f b. inl b)
      (λ f z. elim z [ inl b ↦ b | inr y ↦ absurd y ]) k
  told_all (x ∷ xs) {O = O} {P = P} {B = B} {There = There} fs r l k = let o = one_name fs x l in
      checks_as g j lawful O {P = (P × (There x.name → ⊥)) × NoTwice (More x There) xs} {Q = P × NoTwice There (x ∷ xs)}
      (λ p. (p.0.0, λ f z. elim z [ inl y ↦ p.0.1 y.0 | inr y ↦ p.1 f y ]))
      (λ p. ((p.0, λ h. p.1 (x.pos ! rule.DeclaredTwice) (inl (h, refl))), λ f z. p.1 f (inr z)))
      (λ f z. elim z [ inl y ↦ elim y [ inl b ↦ inl b | inr w ↦ inr (inl w) ] | inr w ↦ inr (inr w) ])
      (λ f z. elim z [ inl b ↦ inl (inl b) | inr y ↦ elim y [ inl w ↦ inl (inr w) | inr w ↦ inr w ] ])
      (told_all xs (with_field g t c fs x).0 (beside g r (with_field g t c fs x).1) (listed_one l o) (told_one k o))

  first_new : (There : List ℕ → Type 0) (x : Ident) (xs : List Ident) → NoTwice There (x ∷ xs) → There x.name → ⊥
  first_new There x xs n h = n (x.pos ! rule.DeclaredTwice) (inl (h, refl))

  pub names_all : (xs : List Ident) {There : List ℕ → Type 0} (fs : Fields) (r : Result (Unit {0}) g.Reported)
      → Listed There fs → NoTwice There xs → (Entries fs r xs).0.names ≡ fs.names ++ fields_of xs t
  names_all [] fs r l n = sym (nil_right fs.names)
  names_all (x ∷ xs) {There = There} fs r l n = let o = one_name fs x l in
      names_all xs (with_field g t c fs x).0 (beside g r (with_field g t c fs x).1) (listed_one l o)
      (λ f z. n f (inr z))
      ∙ ap (λ (ns : List (List ℕ × TypeNo)). ns ++ fields_of xs t) (names_one (first_new There x xs n) o)
      ∙ append_assoc fs.names ((x.name, t) ∷ []) (fields_of xs t)

  pub cells_all : (xs : List Ident) {There : List ℕ → Type 0} (fs : Fields) (r : Result (Unit {0}) g.Reported)
      → Listed There fs → NoTwice There xs → (m : ℕ) → SizeIs fs.cells m
      → SizeIs (Entries fs r xs).0.cells (m + length xs * c)
  cells_all [] fs r l n m s = let e : m ≡ m + 0 * c = omega arith in subst (λ (k : ℕ). SizeIs fs.cells k) e s
  cells_all (x ∷ xs) {There = There} fs r l n m s = let o = one_name fs x l in
      let e : (m + c) + length xs * c ≡ m + suc (length xs) * c = omega arith in
      subst (λ (k : ℕ). SizeIs (Entries fs r (x ∷ xs)).0.cells k) e
      (cells_all xs (with_field g t c fs x).0 (beside g r (with_field g t c fs x).1) (listed_one l o)
      (λ f z. n f (inr z)) (m + c) (cells_one (first_new There x xs n) o s))

-- ---- fields

pub field_constants : (f : Field) → constants_in_field f ≡ constants_in (out-Field f).of
unfolding constants_in constants_in_field
field_constants f = fold_out-Field (List Ident) (List Ident) rules.constants_layer rules.constants_of_field f

module _ (g : Gathers) (j : Judges g) (lawful : Lawful g j) (exports : ℕ → Ident → Standing) where
  -- each type of the fields, as it is read behind those in front of it
  pub data FieldsRead : Scope g.Reported → List Field → Type 0 where
    none_read : {s : Scope g.Reported} → FieldsRead s []
    one_read : {s : Scope g.Reported} {f : Field} {fs : List Field}
        (read : Read g j lawful exports s (out-Field f).of (type_of g (out-Field f).of s))
        → FieldsRead (scope_with s read.adds.makes read.own) fs → FieldsRead s (f ∷ fs)

  abbrev pub fields_added : {s : Scope g.Reported} {fs : List Field} → FieldsRead s fs → Added
  fields_added none_read = nothing_added
  fields_added (one_read read rest) = both_added read.adds (fields_added rest)

  abbrev pub own_behind_fields : {s : Scope g.Reported} {fs : List Field} → FieldsRead s fs
      → List (List ℕ × Known g.Reported)
  own_behind_fields {s = s} none_read = s.own
  own_behind_fields (one_read read rest) = own_behind_fields rest

  abbrev Course : Type 0
  Course = Scope g.Reported × Fields × Result (Unit {0}) g.Reported

  -- one field
  abbrev step : Course → Field → Course
  step st f = fields_named g (type_of g (out-Field f).of st.0) (out-Field f).names st.1 st.2

  fields_at : (f : Field) → field_list g f
      ≡ field_layer g (map-Field TypeExpr Field (Makes g) (MakesFields g) (type_of g) (field_list g) (out-Field f))
  unfolding type_of field_list
  fields_at f = fold_out-Field (Makes g) (MakesFields g) (type_layer g) (field_layer g) f

  step_is : (st : Course) (f : Field) → field_list g f st ≡ step st f
  step_is st f = ap (λ (m : MakesFields g). m st) (fields_at f)

  abbrev pub Steps : Course → List Field → Course
  Steps st fs = fold step st fs

  pub steps_are : (fs : List Field) (st : Course) → fold (then_fields g) st (map (field_list g) fs) ≡ Steps st fs
  steps_are [] st = refl
  steps_are (f ∷ fs) st = ap (λ (st : Course). fold (then_fields g) st (map (field_list g) fs)) (step_is st f)
      ∙ steps_are fs (step st f)

  -- behind one field
  module _ (s : Scope g.Reported) (f : Field)
      (read : Read g j lawful exports s (out-Field f).of (type_of g (out-Field f).of s)) where
    abbrev S1 : Scope g.Reported
    S1 = scope_with s read.adds.makes read.own

    abbrev found : Result TypeNo g.Reported
    found = (type_of g (out-Field f).of s).1

    abbrev next : Fields → Result (Unit {0}) g.Reported → Fields × Result (Unit {0}) g.Reported
    next fs r = Entries g j lawful (field_type found) (cells_at S1.types (field_type found)) fs
        (beside g r (nothing_of found)) (out-Field f).names

    behind_one : (fs : Fields) (r : Result (Unit {0}) g.Reported)
        → step (s, fs, r) f ≡ (S1, (next fs r).0, (next fs r).1)
    behind_one fs r = ap (λ (u : Scope g.Reported). fields_named g (u, found) (out-Field f).names fs r) read.is

  abbrev after : (s : Scope g.Reported) (f : Field)
      → Read g j lawful exports s (out-Field f).of (type_of g (out-Field f).of s) → Fields
      → Result (Unit {0}) g.Reported → Course
  after s f read fs r = (S1 s f read, (next s f read fs r).0, (next s f read fs r).1)

  steps_one : (s : Scope g.Reported) (f : Field) (rest : List Field)
      (read : Read g j lawful exports s (out-Field f).of (type_of g (out-Field f).of s)) (fs : Fields)
      (r : Result (Unit {0}) g.Reported) → Steps (s, fs, r) (f ∷ rest) ≡ Steps (after s f read fs r) rest
  steps_one s f rest read fs r = ap (λ (st : Course). Steps st rest) (behind_one s f read fs r)

  pub fields_scope : {s : Scope g.Reported} {fields : List Field} (k : FieldsRead s fields) (fs : Fields)
      (r : Result (Unit {0}) g.Reported) → (Steps (s, fs, r) fields).0
      ≡ scope_with s (fields_added k).makes (own_behind_fields k)
  fields_scope {s = s} none_read fs r = ap (λ (t : Types). let u : Scope g.Reported = record s { types = t } in u)
      (sym (no_types s.types))
  fields_scope {s = s} (one_read {f = f} {fs = more} read rest) fs r =
      ap (λ (st : Course). st.0) (steps_one s f more read fs r)
      ∙ fields_scope rest (next s f read fs r).0 (next s f read fs r).1
      ∙ ap (λ (ms : List Made). let u : Scope g.Reported =
      record s { own = own_behind_fields rest; types = record s.types { own = ms } } in u)
      (append_assoc s.types.own read.adds.makes (fields_added rest).makes)

  pub fields_enter : {s : Scope g.Reported} {fields : List Field} (k : FieldsRead s fields)
      → Enters (fields_added k).brings s.own (own_behind_fields k)
  fields_enter {s = s} none_read = enters_nothing s.own
  fields_enter {s = s} (one_read read rest) =
      enters_both read.adds.brings (fields_added rest).brings s.own read.own (own_behind_fields rest) read.enters
      (fields_enter rest)

  abbrev pub constants_of_all : List Field → List Ident
  constants_of_all fields = all_listed (map constants_in_field fields)

  pub fields_constants : {s : Scope g.Reported} {fields : List Field} (k : FieldsRead s fields) (n : List ℕ)
      → Decided (Named (constants_of_all fields) n) (is_some (find_name n (fields_added k).brings))
  fields_constants none_read n = fails_it (λ z. elim z.1 [ ])
  fields_constants (one_read {f = f} {fs = fs} read rest) n =
      subst (λ (xs : List Ident). Decided (Named (xs ++ constants_of_all fs) n)
      (is_some (find_name n (read.adds.brings ++ (fields_added rest).brings)))) (sym (field_constants f))
      (both_decided (constants_in (out-Field f).of) read.adds.brings (fields_added rest).brings n (read.constants n)
      (fields_constants rest n))

  -- ---- by what names stand for

  -- what a type is, if it is something
  typed_is : {R : Breach → Type 0} {M : MadeType → Type 0} {B : Breach → Type 0} {a : Added}
      {r : Result TypeNo g.Reported} → Answers g j R (Is a) M B r → (k : MadeType) → M k → (k.0 ≡ a)
      × (field_type r ≡ k.1)
  typed_is (means t l i m u n) k z = let e = u k z ∙ i in
      (ap (λ (k : MadeType). k.0) e, sym (ap (λ (k : MadeType). k.1) e))
  typed_is (refuses r c n) k z = absurd (n k z)

  type_checks : {R : Breach → Type 0} {M : MadeType → Type 0} {B : Breach → Type 0} {a : Added}
      {r : Result TypeNo g.Reported} → Answers g j R (Is a) M B r
      → Checks g j lawful R {A = Unit {0}} ((k : MadeType) × M k) B (nothing_of r)
  type_checks (means t k i m u n) = passes tt (k, m) n
  type_checks (refuses r c n) = stops r c (λ z. n z.0 z.1)

  -- behind a type
  module _ (names : Ident → Standing) (there : List ℕ → Bool) {s : Scope g.Reported} (no_withs : s.withs ≡ [])
      (knows : Knows g j names exports s) (frees : Frees s there) (a : Added) (own : List (List ℕ × Known g.Reported))
      (enters : Enters a.brings s.own own) where
    abbrev W : Setting
    W = behind (set_in s names there) a

    knows_next : Knows g j W.names exports (scope_with s a.makes own)
    knows_next = knows_more g j exports s no_withs a own enters frees knows

    frees_next : Frees (scope_with s a.makes own) W.there
    frees_next = frees_more g j exports s no_withs a own enters frees

    repeats_next : (f : Breach) → Repeats g j W.names (scope_with s a.makes own) f → Repeats g j names s f
    repeats_next = repeats_more g j exports s no_withs a own enters frees names

  -- ---- what they add

  fields_adds : {s : Scope g.Reported} {fields : List Field} (k : FieldsRead s fields) (no_withs : s.withs ≡ [])
      (names : Ident → Standing) (there : List ℕ → Bool) → Knows g j names exports s → Frees s there
      → FieldsAdd exports (set_in s names there) fields (fields_added k)
  fields_adds none_read no_withs names there knows frees = rules.nothing_adds
  fields_adds {s = s} (one_read read rest) no_withs names there knows frees =
      rules.each_adds (read.added names there knows frees)
      (fields_adds rest no_withs (behind (set_in s names there) read.adds).names
      (behind (set_in s names there) read.adds).there
      (knows_next names there no_withs knows frees read.adds read.own read.enters)
      (frees_next names there no_withs knows frees read.adds read.own read.enters))

  adds_same : {w : Setting} {f : Field} {fs : List Field} {a b : Added} {c : Added} → FieldsAdd exports w (f ∷ fs) c
      → ((x : Added) → Adds exports w (out-Field f).of x → x ≡ a)
      → ((y : Added) → FieldsAdd exports (behind w a) fs y → y ≡ b) → c ≡ both_added a b
  adds_same {w = w} {fs = fs} {a = a} (rules.each_adds {a = x} {b = y} m n) first rest =
      ap (λ (x : Added). both_added x y) (first x m)
      ∙ ap (λ (y : Added). both_added a y) (rest y
      (subst (λ (x : Added). FieldsAdd exports (behind w x) fs y) (first x m) n))

  nothing_same : {w : Setting} {c : Added} → FieldsAdd exports w [] c → c ≡ nothing_added
  nothing_same rules.nothing_adds = refl

  fields_only : {s : Scope g.Reported} {fields : List Field} (k : FieldsRead s fields) (no_withs : s.withs ≡ [])
      (names : Ident → Standing) (there : List ℕ → Bool) → Knows g j names exports s → Frees s there → (c : Added)
      → FieldsAdd exports (set_in s names there) fields c → c ≡ fields_added k
  fields_only none_read no_withs names there knows frees c z = nothing_same z
  fields_only {s = s} (one_read read rest) no_withs names there knows frees c z =
      adds_same z (λ x m. read.only names there knows frees x m)
      (λ y m. fields_only rest no_withs (behind (set_in s names there) read.adds).names
      (behind (set_in s names there) read.adds).there
      (knows_next names there no_withs knows frees read.adds read.own read.enters)
      (frees_next names there no_withs knows frees read.adds read.own read.enters) y m)

  -- ---- what the fields are

  -- fields that are right
  record RightFields (w : Setting) (fields : List Field) : Type 0 where
    adds : Added
    list : List (List ℕ × TypeNo)
    cells : ℕ
    are : AreFields exports w fields adds list cells

  -- what the fields that are entered stand for
  record Shaped (fs gs : Fields) (ns : List (List ℕ × TypeNo)) (n : ℕ) : Type 0 where
    names : gs.names ≡ fs.names ++ ns
    cells : (m : ℕ) → SizeIs fs.cells m → SizeIs gs.cells (m + n)

  twice_join : (There : List ℕ → Type 0) (xs ys : List Ident) (f : Breach) → Twice There xs f
      ⊎ Twice (Adding xs There) ys f → Twice There (xs ++ ys) f
  twice_join There [] ys f (inl z) = absurd z
  twice_join There [] ys f (inr t) = t
  twice_join There (x ∷ xs) ys f (inl (inl h)) = inl h
  twice_join There (x ∷ xs) ys f (inl (inr t)) = inr (twice_join (λ n. (x.name ≡ n) ⊎ There n) xs ys f (inl t))
  twice_join There (x ∷ xs) ys f (inr t) = inr (twice_join (λ n. (x.name ≡ n) ⊎ There n) xs ys f (inr t))

  twice_split : (There : List ℕ → Type 0) (xs ys : List Ident) (f : Breach) → Twice There (xs ++ ys) f
      → Twice There xs f ⊎ Twice (Adding xs There) ys f
  twice_split There [] ys f t = inr t
  twice_split There (x ∷ xs) ys f (inl h) = inl (inl h)
  twice_split There (x ∷ xs) ys f (inr t) =
      elim (twice_split (λ n. (x.name ≡ n) ⊎ There n) xs ys f t) [ inl y ↦ inl (inr y) | inr y ↦ inr y ]

  -- the first field and those behind it
  record FirstField (w : Setting) (f : Field) (rest : List Field) (a : Added) (ns : List (List ℕ × TypeNo)) (n : ℕ) :
      Type 0 where
    first : Added
    of : TypeNo
    behind_it : Added
    list : List (List ℕ × TypeNo)
    cells : ℕ
    is : IsTypeOf exports w (out-Field f).of first of
    are : AreFields exports (behind w first) rest behind_it list cells
    adds_is : a ≡ both_added first behind_it
    list_is : ns ≡ fields_of (out-Field f).names of ++ list
    cells_is : n ≡ length (out-Field f).names * cells_at (behind w first).types of + cells

  first_field : {w : Setting} {f : Field} {rest : List Field} {a : Added} {ns : List (List ℕ × TypeNo)} {n : ℕ}
      → AreFields exports w (f ∷ rest) a ns n → FirstField w f rest a ns n
  first_field (rules.a_field {a = a} {b = b} {t = t} {ns = ns} {n = n} m k) =
      record {
        first = a;
        of = t;
        behind_it = b;
        list = ns;
        cells = n;
        is = m;
        are = k;
        adds_is = refl;
        list_is = refl;
        cells_is = refl;
      }

  no_more : {w : Setting} {a : Added} {ns : List (List ℕ × TypeNo)} {n : ℕ} → AreFields exports w [] a ns n
      → (a ≡ nothing_added) × (ns ≡ []) × (n ≡ 0)
  no_more rules.no_field = (refl, refl, refl)

  -- one field, and those behind it
  module _ (s : Scope g.Reported) (no_withs : s.withs ≡ []) (f : Field) (more : List Field)
      (read : Read g j lawful exports s (out-Field f).of (type_of g (out-Field f).of s)) (names : Ident → Standing)
      (there : List ℕ → Bool) (knows : Knows g j names exports s) (frees : Frees s there) where
    abbrev w : Setting
    w = set_in s names there

    abbrev w1 : Setting
    w1 = behind w read.adds

    abbrev xs : List Ident
    xs = (out-Field f).names

    abbrev c : ℕ
    c = cells_at w1.types (field_type (found s f read))

    knows1 : Knows g j w1.names exports (S1 s f read)
    knows1 = knows_next names there no_withs knows frees read.adds read.own read.enters

    frees1 : Frees (S1 s f read) w1.there
    frees1 = frees_next names there no_withs knows frees read.adds read.own read.enters

    first_is : {t : TypeNo} {a : Added} → IsTypeOf exports w (out-Field f).of a t → (a ≡ read.adds)
        × (field_type (found s f read) ≡ t)
    first_is {t = t} {a = a} m = typed_is (read.exact names there knows frees) (a, t) m

    rest_is : {t : TypeNo} {a b : Added} {ns : List (List ℕ × TypeNo)} {n : ℕ} → IsTypeOf exports w (out-Field f).of a t
        → AreFields exports (behind w a) more b ns n → AreFields exports w1 more b ns n
    rest_is {b = b} {ns = ns} {n = n} m k =
        subst (λ (a : Added). AreFields exports (behind w a) more b ns n) (first_is m).0 k

    cells_same : {t : TypeNo} {a : Added} → IsTypeOf exports w (out-Field f).of a t → c ≡ cells_at (behind w a).types t
    cells_same {t = t} {a = a} m = ap (λ (u : TypeNo). cells_at w1.types u) (first_is m).1
        ∙ sym (ap (λ (a : Added). cells_at (behind w a).types t) (first_is m).0)

    module _ {There : List ℕ → Type 0} (fs : Fields) (r : Result (Unit {0}) g.Reported) (l : Listed There fs) where
      abbrev now : Fields × Result (Unit {0}) g.Reported
      now = next s f read fs r

      listed_now : Listed (Adding xs There) now.0
      listed_now = listed_all g j lawful (field_type (found s f read)) c xs fs
          (beside g r (nothing_of (found s f read))) l

      module _ (n : NoTwice There (xs ++ field_names more)) where
        first_differ : NoTwice There xs
        first_differ f t = n f (twice_join There xs (field_names more) f (inl t))

        rest_differ : NoTwice (Adding xs There) (field_names more)
        rest_differ f t = n f (twice_join There xs (field_names more) f (inr t))

        -- the fields that are entered
        shape_by : {gs : Fields} {a : Added} {ns : List (List ℕ × TypeNo)} {m : ℕ} (q : FirstField w f more a ns m)
            → Shaped now.0 gs q.list q.cells → Shaped fs gs ns m
        shape_by {gs = gs} {ns = ns} {m = m} q v = record {
          names = v.names ∙ ap (λ (es : List (List ℕ × TypeNo)). es ++ q.list)
              (names_all g j lawful (field_type (found s f read)) c xs fs (beside g r (nothing_of (found s f read))) l
              first_differ)
              ∙ append_assoc fs.names (fields_of xs (field_type (found s f read))) q.list
              ∙ ap (λ (es : List (List ℕ × TypeNo)). fs.names ++ es)
              (ap (λ (t : TypeNo). fields_of xs t ++ q.list) (first_is q.is).1 ∙ sym q.list_is);
          cells = λ k h. let e : (k + length xs * c) + q.cells ≡ k + (length xs * c + q.cells) = omega arith in
              subst (λ (n : ℕ). SizeIs gs.cells n)
              (e ∙ ap (λ (n : ℕ). k + n) (ap (λ (n : ℕ). length xs * n + q.cells) (cells_same q.is)
              ∙ sym q.cells_is))
              (v.cells (k + length xs * c) (cells_all g j lawful (field_type (found s f read)) c xs fs
              (beside g r (nothing_of (found s f read))) l first_differ k h));
        }

      -- what is reported of it
      told_now : {O : Breach → Type 0} {P : Type 0} {B : Breach → Type 0} → ((f : Breach) → Repeats g j names s f → O f)
          → Checks g j lawful O {A = Unit {0}} P B r
          → Checks g j lawful O {A = Unit {0}}
          ((P × ((k : MadeType) × IsTypeOf exports w (out-Field f).of k.0 k.1)) × NoTwice There xs)
          (λ h. (B h ⊎ BrokenType exports w (out-Field f).of h) ⊎ Twice There xs h) now.1
      told_now {O = O} into k = told_all g j lawful (field_type (found s f read)) c xs {O = O} fs
          (beside g r (nothing_of (found s f read))) l
          (beside_checks g j lawful O k (type_checks (more_repeated into (read.exact names there knows frees))))

      abbrev RightNow : Type 0 → Type 0
      RightNow P = ((P × ((k : MadeType) × IsTypeOf exports w (out-Field f).of k.0 k.1)) × NoTwice There xs)
          × (RightFields w1 more × NoTwice (Adding xs There) (field_names more))

      abbrev RightAll : Type 0 → Type 0
      RightAll P = P × (RightFields w (f ∷ more) × NoTwice There (xs ++ field_names more))

      right_in : {P : Type 0} → RightNow P → RightAll P
      right_in (((p, (k, m)), n), (rf, v)) = (
        p,
        (
          record {
            adds = both_added k.0 rf.adds;
            list = fields_of xs k.1 ++ rf.list;
            cells =
                length xs * cells_at (behind w k.0).types k.1 + rf.cells;
            are =
                rules.a_field m (subst (λ (a : Added). AreFields exports (behind w a) more rf.adds rf.list rf.cells)
                (sym (first_is m).0) rf.are);
          },
          λ h t. elim (twice_split There xs (field_names more) h t)
              [ inl y ↦ n h y | inr y ↦ v h y ],
        ),
      )

      right_by : {P : Type 0} {a : Added} {ns : List (List ℕ × TypeNo)} {m : ℕ} → P → FirstField w f more a ns m
          → NoTwice There (xs ++ field_names more) → RightNow P
      right_by p q v = (
        ((p, ((q.first, q.of), q.is)), first_differ v),
        (record { adds = q.behind_it; list = q.list; cells = q.cells; are = rest_is q.is q.are }, rest_differ v),
      )

      right_out : {P : Type 0} → RightAll P → RightNow P
      right_out (p, (rf, v)) = right_by p (first_field rf.are) v

      abbrev BreaksNow : (Breach → Type 0) → Breach → Type 0
      BreaksNow B h = ((B h ⊎ BrokenType exports w (out-Field f).of h) ⊎ Twice There xs h)
          ⊎ (BrokenFields exports w1 more h ⊎ Twice (Adding xs There) (field_names more) h)

      abbrev BreaksAll : (Breach → Type 0) → Breach → Type 0
      BreaksAll B h = B h ⊎ (BrokenFields exports w (f ∷ more) h ⊎ Twice There (xs ++ field_names more) h)

      breaks_in : (B : Breach → Type 0) (h : Breach) → BreaksNow B h → BreaksAll B h
      breaks_in B h (inl (inl (inl b))) = inl b
      breaks_in B h (inl (inl (inr b))) = inr (inl (rules.in_first b))
      breaks_in B h (inl (inr t)) = inr (inr (twice_join There xs (field_names more) h (inl t)))
      breaks_in B h (inr (inl b)) = inr (inl (rules.in_later (read.added names there knows frees) b))
      breaks_in B h (inr (inr t)) = inr (inr (twice_join There xs (field_names more) h (inr t)))

      broken_by : {h : Breach} → BrokenFields exports w (f ∷ more) h → BrokenType exports w (out-Field f).of h
          ⊎ BrokenFields exports w1 more h
      broken_by (rules.in_first b) = inl b
      broken_by {h = h} (rules.in_later {a = a} m b) =
          inr (subst (λ (a : Added). BrokenFields exports (behind w a) more h) (read.only names there knows frees a m)
          b)

      breaks_out : (B : Breach → Type 0) (h : Breach) → BreaksAll B h → BreaksNow B h
      breaks_out B h (inl b) = inl (inl (inl b))
      breaks_out B h (inr (inl b)) = elim (broken_by b) [ inl y ↦ inl (inl (inr y)) | inr y ↦ inr (inl y) ]
      breaks_out B h (inr (inr t)) = elim (twice_split There xs (field_names more) h t)
          [ inl y ↦ inl (inr y) | inr y ↦ inr (inr y) ]

  fields_shape : {s : Scope g.Reported} {fields : List Field} (k : FieldsRead s fields) (no_withs : s.withs ≡ [])
      (names : Ident → Standing) (there : List ℕ → Bool) → Knows g j names exports s → Frees s there
      → {There : List ℕ → Type 0} (fs : Fields) (r : Result (Unit {0}) g.Reported) → Listed There fs
      → NoTwice There (field_names fields)
      → {a : Added} {ns : List (List ℕ × TypeNo)} {n : ℕ} → AreFields exports (set_in s names there) fields a ns n
      → Shaped fs (Steps (s, fs, r) fields).1 ns n
  fields_shape none_read no_withs names there knows frees fs r l t z = let q = no_more z in
      record {
        names = sym (ap (λ (ns : List (List ℕ × TypeNo)). fs.names ++ ns) q.1 ∙ nil_right fs.names);
        cells =
            λ m h. subst (λ (n : ℕ). SizeIs fs.cells n) (plus_none m q.2) h;
      }
    where
      plus_none : {n : ℕ} (m : ℕ) → n ≡ 0 → m ≡ m + n
      plus_none m e = omega (arith, e)
  fields_shape {s = s} (one_read {f = f} {fs = more} read rest) no_withs names there knows frees {There = There} fs r l
      t {ns = ns} {n = n} z = let q = first_field z in
      subst (λ (st : Course). Shaped fs st.1 ns n) (sym (steps_one s f more read fs r))
      (shape_by s no_withs f more read names there knows frees fs r l t q
      (fields_shape rest no_withs (behind (set_in s names there) read.adds).names
      (behind (set_in s names there) read.adds).there (knows1 s no_withs f more read names there knows frees)
      (frees1 s no_withs f more read names there knows frees)
      (now s no_withs f more read names there knows frees fs r l).0
      (now s no_withs f more read names there knows frees fs r l).1
      (listed_now s no_withs f more read names there knows frees fs r l)
      (rest_differ s no_withs f more read names there knows frees fs r l t)
      (rest_is s no_withs f more read names there knows frees q.is q.are)))

  fields_told : {s : Scope g.Reported} {fields : List Field} (k : FieldsRead s fields) (no_withs : s.withs ≡ [])
      (names : Ident → Standing) (there : List ℕ → Bool) → Knows g j names exports s → Frees s there
      → {There : List ℕ → Type 0} (fs : Fields) (r : Result (Unit {0}) g.Reported) → Listed There fs
      → {O : Breach → Type 0} {P : Type 0} {B : Breach → Type 0} → ((f : Breach) → Repeats g j names s f → O f)
      → Checks g j lawful O {A = Unit {0}} P B r
      → Checks g j lawful O {A = Unit {0}} (P
      × (RightFields (set_in s names there) fields × NoTwice There (field_names fields)))
      (λ h. B h ⊎ (BrokenFields exports (set_in s names there) fields h ⊎ Twice There (field_names fields) h))
      (Steps (s, fs, r) fields).2
  fields_told none_read no_withs names there knows frees fs r l {O = O} into k =
      checks_as g j lawful O (λ p. (
        p,
        (
          record { adds = nothing_added; list = []; cells = 0; are = rules.no_field },
          λ f
              z. z,
        ),
      )) (λ p. p.0) (λ f b. inl b) (λ f z. elim z
      [ inl b ↦ b | inr y ↦ elim y [ inl b ↦ absurd (none b) | inr t ↦ absurd t ] ]) k
    where
      none : {w : Setting} {f : Breach} → BrokenFields exports w [] f → ⊥
      none b = elim b [ ]
  fields_told {s = s} (one_read {f = f} {fs = more} read rest) no_withs names there knows frees {There = There} fs r l
      {O = O} {P = P} {B = B} into k =
      subst (λ (st : Course). Checks g j lawful O {A = Unit {0}}
      (RightAll s no_withs f more read names there knows frees fs r l P)
      (BreaksAll s no_withs f more read names there knows frees fs r l B) st.2) (sym (steps_one s f more read fs r))
      (checks_as g j lawful O (right_in s no_withs f more read names there knows frees fs r l)
      (right_out s no_withs f more read names there knows frees fs r l)
      (breaks_in s no_withs f more read names there knows frees fs r l B)
      (breaks_out s no_withs f more read names there knows frees fs r l B)
      (fields_told rest no_withs (behind (set_in s names there) read.adds).names
      (behind (set_in s names there) read.adds).there (knows1 s no_withs f more read names there knows frees)
      (frees1 s no_withs f more read names there knows frees)
      (now s no_withs f more read names there knows frees fs r l).0
      (now s no_withs f more read names there knows frees fs r l).1
      (listed_now s no_withs f more read names there knows frees fs r l)
      (λ f z. into f (repeats_next names there no_withs knows frees read.adds read.own read.enters f z))
      (told_now s no_withs f more read names there knows frees fs r l into k)))

  fields_right : {w : Setting} {fields : List Field} {a : Added} {ns : List (List ℕ × TypeNo)} {n : ℕ}
      → AreFields exports w fields a ns n → FieldsAdd exports w fields a
  fields_right rules.no_field = rules.nothing_adds
  fields_right (rules.a_field m k) = rules.each_adds (rules.right_adds m) (fields_right k)

small_of : {n m : ℕ} → SizeIs n m → nat_lt 131072 n ≡ false → n ≡ m
small_of (size_same e) q = e
small_of (size_large h l) q = let z : true ≡ false = sym h ∙ q in absurd cc

large_of : {n m : ℕ} → SizeIs n m → nat_lt 131072 n ≡ true → nat_lt 131072 m ≡ true
large_of (size_same e) q = subst (λ (n : ℕ). nat_lt 131072 n ≡ true) e q
large_of (size_large h l) q = l

-- ---- a record

module _ (g : Gathers) (j : Judges g) (lawful : Lawful g j) (exports : ℕ → Ident → Standing) (s : Scope g.Reported)
    (no_withs : s.withs ≡ []) (e : TypeExpr) (at : Pos) (fields : List Field)
    (h : out-TypeExpr e ≡ layer.Record at fields) (k : FieldsRead g j lawful exports s fields) where
  abbrev a : Added
  a = fields_added g j lawful exports k

  abbrev own : List (List ℕ × Known g.Reported)
  own = own_behind_fields g j lawful exports k

  abbrev S : Scope g.Reported
  S = scope_with s a.makes own

  abbrev st : Scope g.Reported × Fields × Result (Unit {0}) g.Reported
  st = Steps g j lawful exports (s, no_fields, Ok tt) fields

  abbrev Equal : Made → Made → Type 0
  Equal a b = a ≡ b

  module _ (names : Ident → Standing) (there : List ℕ → Bool) (knows : Knows g j names exports s)
      (frees : Frees s there) where
    abbrev R : Breach → Type 0
    R = Repeats g j names s

    abbrev ws : Setting
    ws = set_in s names there

    abbrev Right : Type 0
    Right = RightFields g j lawful exports ws fields

    abbrev Differ : Type 0
    Differ = NoTwice (λ n. ⊥) (field_names fields)

    abbrev Small : Right → Type 0
    Small f = nat_lt 131072 f.cells ≡ false

    abbrev Large : Right → Type 0
    Large f = nat_lt 131072 f.cells ≡ true

    abbrev made_of : Right → Made
    made_of f = record_made f.list f.cells

    abbrev RecordIs : Made → Type 0
    RecordIs m = (f : Right) × Differ × Small f × (m ≡ made_of f)

    abbrev RecordFails : Breach → Type 0
    RecordFails b = (f : Right) × Differ × Large f × (b ≡ at ! rule.LargeType)

    none_listed : Listed (λ n. ⊥) no_fields
    none_listed n = fails_it (λ z. z)

    names_same : (f : Right) → Differ → st.1.names ≡ f.list
    names_same f d = (fields_shape g j lawful exports k no_withs names there knows frees no_fields (Ok tt) none_listed d
        f.are).names

    cells_are : (f : Right) → Differ → SizeIs st.1.cells f.cells
    cells_are f d = let q : 0 + f.cells ≡ f.cells = omega arith in
        subst (λ (n : ℕ). SizeIs st.1.cells n) q
        ((fields_shape g j lawful exports k no_withs names there knows frees no_fields (Ok tt) none_listed d
        f.are).cells 0 (size_same refl))

    made_same : (f : Right) → Differ → nat_lt 131072 st.1.cells ≡ false → made_of f ≡ record_made st.1.names st.1.cells
    made_same f d q = ap (λ (ns : List (List ℕ × TypeNo)). record_made ns f.cells) (sym (names_same f d))
        ∙ ap (λ (n : ℕ). record_made st.1.names n) (sym (small_of (cells_are f d) q))

    sized : Right → Differ → (l : Bool) → nat_lt 131072 st.1.cells ≡ l
        → Answers g j R Equal RecordIs RecordFails
        (reported_where g l at rule.LargeType (Ok (record_made st.1.names st.1.cells)))
    sized f d true q = declined g j lawful R at rule.LargeType
        (λ m z. let y : true ≡ false = sym (large_of (cells_are z.0 z.1) q) ∙ z.2 in absurd cc)
        (f, d, large_of (cells_are f d) q, refl) (λ b z. z.3)
    sized f d false q = means (record_made st.1.names st.1.cells) (record_made st.1.names st.1.cells) refl
        (f, d, subst (λ (n : ℕ). nat_lt 131072 n ≡ false) (small_of (cells_are f d) q) q, sym (made_same f d q))
        (λ m z. z.3 ∙ made_same z.0 z.1 q)
        (λ b z. let y : true ≡ false = sym z.2
        ∙ subst (λ (n : ℕ). nat_lt 131072 n ≡ false) (small_of (cells_are z.0 z.1) q) q in absurd cc)

    abbrev FieldsFail : Breach → Type 0
    FieldsFail b = ⊥ ⊎ (BrokenFields exports ws fields b ⊎ Twice (λ n. ⊥) (field_names fields) b)

    told : Checks g j lawful R {A = Unit {0}} (Unit {0} × (Right × Differ)) FieldsFail st.2
    told = fields_told g j lawful exports k no_withs names there knows frees no_fields (Ok tt) none_listed {O = R}
        {P = Unit {0}} {B = λ b. ⊥} (λ f z. z) (passes tt tt (λ f z. z))

    abbrev Whole : MadeType → Type 0
    Whole k = IsTypeOf exports ws e k.0 k.1

    abbrev WholeFails : Breach → Type 0
    WholeFails = BrokenType exports ws e

    same_fields : {p : Pos} {fs : List Field} → out-TypeExpr e ≡ layer.Record p fs → fs ≡ fields
    same_fields q = let z = sym q ∙ h in cc

    same_at : {p : Pos} {fs : List Field} → out-TypeExpr e ≡ layer.Record p fs → p ≡ at
    same_at q = let z = sym q ∙ h in cc

    abbrev righted : {p : Pos} {fs : List Field} {b : Added} {ns : List (List ℕ × TypeNo)} {n : ℕ}
        → out-TypeExpr e ≡ layer.Record p fs → AreFields exports ws fs b ns n → Right
    righted {b = b} {ns = ns} {n = n} q m =
        record {
          adds = b;
          list = ns;
          cells = n;
          are =
              subst (λ (fs : List Field). AreFields exports ws fs b ns n) (same_fields q) m;
        }

    differing : {p : Pos} {fs : List Field} → out-TypeExpr e ≡ layer.Record p fs → NoTwice (λ n. ⊥) (field_names fs)
        → Differ
    differing q d = subst (λ (fs : List Field). NoTwice (λ n. ⊥) (field_names fs)) (same_fields q) d

    abbrev result : Right → MadeType
    result f = (both_added f.adds (type_added (made_of f)), next_type (behind ws f.adds).types)

    whole_in : (f : Right) → Differ → Small f → Whole (result f)
    whole_in f d z = rules.is_record h f.are d z

    whole_out : {n : Added} {t : TypeNo} → Whole (n, t) → (f : Right) × Differ × Small f
        × (◌≡◌ {A = MadeType} (n, t) (result f))
    whole_out (rules.is_simple q m) = let z = sym h ∙ q in absurd cc
    whole_out (rules.is_procedure q m n) = let z = sym h ∙ q in absurd cc
    whole_out (rules.is_array q m i n l) = let z = sym h ∙ q in absurd cc
    whole_out (rules.is_record q m d l) = (righted q m, differing q d, l, refl)

    fails_in : (b : Breach) → FieldsFail b ⊎ ((Unit {0} × (Right × Differ)) × RecordFails b) → WholeFails b
    fails_in b (inl (inl z)) = absurd z
    fails_in b (inl (inr (inl z))) = rules.in_fields h z
    fails_in b (inl (inr (inr t))) = rules.field_twice h t
    fails_in b (inr (p, (f, d, l, q))) = subst WholeFails (sym q) (rules.too_many_cells h f.are d l)

    fails_out : (b : Breach) → WholeFails b → FieldsFail b ⊎ ((Unit {0} × (Right × Differ)) × RecordFails b)
    fails_out b (rules.in_simple q m) = let z = sym h ∙ q in absurd cc
    fails_out b (rules.in_parameter q m n) = let z = sym h ∙ q in absurd cc
    fails_out b (rules.at_result q m) = let z = sym h ∙ q in absurd cc
    fails_out b (rules.in_index q m) = let z = sym h ∙ q in absurd cc
    fails_out b (rules.no_index q m n) = let z = sym h ∙ q in absurd cc
    fails_out b (rules.in_elements q m n) = let z = sym h ∙ q in absurd cc
    fails_out b (rules.too_large q m i n l) = let z = sym h ∙ q in absurd cc
    fails_out b (rules.in_fields q m) = inl
        (inr (inl (subst (λ (fs : List Field). BrokenFields exports ws fs b) (same_fields q) m)))
    fails_out b (rules.field_twice q t) = inl
        (inr (inr (subst (λ (fs : List Field). Twice (λ n. ⊥) (field_names fs) b) (same_fields q) t)))
    fails_out b (rules.too_many_cells q m d l) =
        inr (
          (tt, (righted q m, differing q d)),
          (righted q m, differing q d, l, ap (λ (p : Pos). p ! rule.LargeType) (same_at q)),
        )

    whole_answers : Answers g j R Equal RecordIs WholeFails (record_of g at st.1 st.2)
    whole_answers = exact g j lawful R (λ m z. z.1) (λ m z. ((tt, (z.0, z.1)), z)) fails_in fails_out
        (then_checked g j lawful R {M = RecordIs} {D = RecordFails} told
        (λ u p. sized p.1.0 p.1.1 (nat_lt 131072 st.1.cells) refl))

    adds_is : (f : Right) → f.adds ≡ a
    adds_is f = fields_only g j lawful exports k no_withs names there knows frees f.adds
        (fields_right g j lawful exports f.are)

    abbrev made_by : Added → Made → MadeType
    made_by a m = (both_added a (type_added m), next_type (with_types s.types a.makes))

    made_alike : {c : Added} {m n : Made} → c ≡ a → m ≡ n → made_by c m ≡ made_by a n
    made_alike {m = m} p q = ap (λ (c : Added). made_by c m) p ∙ ap (λ (m : Made). made_by a m) q

    made_answers : (m : Made) → Answers g j R Equal RecordIs WholeFails (Ok m)
        → Answers g j R (Is (both_added a (type_added m))) Whole WholeFails (Ok (next_type S.types))
    made_answers m (means _ n q (f, d, l, v) u c) =
        means (next_type S.types) (made_by a m) refl
        (subst Whole (made_alike (adds_is f) (sym v ∙ sym q)) (whole_in f d l)) (λ y z. same y z) c
      where
        same : (y : MadeType) → Whole y → y ≡ made_by a m
        same y z = let p = whole_out z in p.3 ∙ made_alike (adds_is p.0) (u (made_of p.0) (p.0, p.1, p.2, refl) ∙ sym q)

    unmade_answers : (r : g.Reported) → Answers g j R Equal RecordIs WholeFails (Err r)
        → Answers g j R (Is a) Whole WholeFails (Err r)
    unmade_answers r (refuses _ c n) = refuses r c (λ y z. let p = whole_out z in n (made_of p.0) (p.0, p.1, p.2, refl))

    made_added : {c : Added} {t : TypeNo} → Answers g j R (Is c) Whole WholeFails (Ok t) → Adds exports ws e c
    made_added (means t k i m u n) = rules.right_adds (subst Whole i m)

    made_only : {c : Added} {t : TypeNo} → Answers g j R (Is c) Whole WholeFails (Ok t) → {d : Added}
        → Adds exports ws e d → d ≡ c
    made_only v (rules.simple_adds q m) = let z = sym h ∙ q in absurd cc
    made_only v (rules.right_adds {a = d} {t = t} m) = one_added g j lawful exports s v (d, t) m
    made_only v (rules.parts_add q none y z) = let z = sym h ∙ q in absurd cc
    made_only v (rules.no_procedure q none) = let z = sym h ∙ q in absurd cc
    made_only (means t k i m u n) (rules.fields_add q none y) = absurd (none k.0 k.1 m)

    none_whole : {c : Added} {r : g.Reported} → Answers g j R (Is c) Whole WholeFails (Err r) → (d : Added) (t : TypeNo)
        → IsTypeOf exports ws e d t → ⊥
    none_whole (refuses r c n) d t m = n (d, t) m

    unmade_added : {c : Added} {r : g.Reported} → Answers g j R (Is c) Whole WholeFails (Err r) → Adds exports ws e a
    unmade_added v = rules.fields_add h (none_whole v)
        (fields_adds g j lawful exports k no_withs names there knows frees)

    unmade_only : {c : Added} {r : g.Reported} → Answers g j R (Is c) Whole WholeFails (Err r) → {d : Added}
        → Adds exports ws e d → d ≡ a
    unmade_only v (rules.simple_adds q m) = let z = sym h ∙ q in absurd cc
    unmade_only v (rules.right_adds {a = d} {t = t} m) = absurd (none_whole v d t m)
    unmade_only v (rules.parts_add q none y z) = let z = sym h ∙ q in absurd cc
    unmade_only v (rules.no_procedure q none) = let z = sym h ∙ q in absurd cc
    unmade_only v {d = d} (rules.fields_add q none y) =
        fields_only g j lawful exports k no_withs names there knows frees d
        (subst (λ (fs : List Field). FieldsAdd exports ws fs d) (same_fields q) y)

  abbrev with_own_types : List Made → Scope g.Reported
  with_own_types ms = record s { own = own; types = record s.types { own = ms } }

  constants_fields : (n : List ℕ) → Decided (Named (constants_in e) n) (is_some (find_name n a.brings))
  constants_fields = constants_as a.brings (constants_at e (layer.Record at fields) h)
      (fields_constants g j lawful exports k)

  final_read : (r : Result Made g.Reported)
      → ((names : Ident → Standing) (there : List ℕ → Bool) (k : Knows g j names exports s) (f : Frees s there)
      → Answers g j (Repeats g j names s) Equal (RecordIs names there k f) (WholeFails names there k f) r)
      → Read g j lawful exports s e (with_made S r)
  final_read (Ok m) v = record {
    adds = both_added a (type_added m);
    own = own;
    is = ap (λ (ms : List Made). with_own_types ms) (append_assoc s.types.own a.makes (m ∷ []));
    enters = subst (λ (bs : List (List ℕ × rules.Member)). Enters bs s.own own) (sym (nil_right a.brings))
        (fields_enter g j lawful exports k);
    constants = subst (λ (bs : List (List ℕ × rules.Member)). (n : List ℕ)
        → Decided (Named (constants_in e) n) (is_some (find_name n bs))) (sym (nil_right a.brings)) constants_fields;
    exact = λ names there k f. made_answers names there k f m (v names there k f);
    added = λ names there k f. made_added names there k f (made_answers names there k f m (v names there k f));
    only = λ names there k f d z. made_only names there k f (made_answers names there k f m (v names there k f)) z;
  }
  final_read (Err r) v = record {
    adds = a;
    own = own;
    is = refl;
    enters = fields_enter g j lawful exports k;
    constants = constants_fields;
    exact = λ names there k f. unmade_answers names there k f r (v names there k f);
    added = λ names there k f. unmade_added names there k f (unmade_answers names there k f r (v names there k f));
    only = λ names there k f d z. unmade_only names there k f (unmade_answers names there k f r (v names there k f)) z;
  }

  pub record_read : Read g j lawful exports s e (type_of g e s)
  record_read = subst (λ (m : Makes g). Read g j lawful exports s e (m s))
      (sym (type_at g j lawful exports s e (layer.Record at fields) h))
      (subst (λ (q : Scope g.Reported × Fields × Result (Unit {0}) g.Reported). Read g j lawful exports s e
      (record_type g at q)) (sym (steps_are g j lawful exports fields (s, no_fields, Ok tt)))
      (subst (λ (u : Scope g.Reported). Read g j lawful exports s e (with_made u (record_of g at st.1 st.2)))
      (sym (fields_scope g j lawful exports k no_fields (Ok tt)))
      (final_read (record_of g at st.1 st.2) whole_answers)))

-- ---- all types

module _ (g : Gathers) (j : Judges g) (lawful : Lawful g j) (exports : ℕ → Ident → Standing) where
  mutual
    tree_read : {e : TypeExpr} → IsTypeTree e → (s : Scope g.Reported) → s.withs ≡ []
        → Read g j lawful exports s e (type_of g e s)
    tree_read {e = e} (tree_simple {x = x} h) s n = simple_type_read g j lawful exports s e x h
    tree_read {e = e} (tree_array {of = of} {at = at} {index = x} h k) s n = let r =
        simple_read g j lawful exports s x in
        array_read g j lawful exports s n e at x of h r (tree_read k (scope_with s r.adds.makes r.own) n)
    tree_read {e = e} (tree_record {at = at} {fields = fs} h i) s n =
        record_read g j lawful exports s n e at fs h (fields_read i s n)
    tree_read {e = e} (tree_procedure {at = at} {xs = xs} {q = q} h) s n =
        procedure_read g j lawful exports s e at xs q h

    fields_read : {fs : List Field} → AreFieldTrees fs → (s : Scope g.Reported) → s.withs ≡ []
        → FieldsRead g j lawful exports s fs
    fields_read no_field_tree s n = none_read
    fields_read (one_field_tree i k) s n = let r = tree_read i s n in
        one_read r (fields_read k (scope_with s r.adds.makes r.own) n)

  pub type_read : (e : TypeExpr) (s : Scope g.Reported) → s.withs ≡ [] → Read g j lawful exports s e (type_of g e s)
  type_read e s n = tree_read (type_tree e) s n
