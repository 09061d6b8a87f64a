-- Behind declarations a name stands for one thing at most, and each declaration adds one thing.
use Rattle.std.proofs.Common.{◌≡◌, ℕ, Bool, List, [], ◌∷◌, ◌++◌, Option, Some, refl, sym, ap, subst, ◌∙◌}
use Rattle.std.proofs.Math.Path.{fun_ext}
use Rattle.m2_tree.specs.declared.name.Ident.{Ident}
use Rattle.typed_tree.specs.declared.types.TypeNo.{TypeNo}
use Rattle.typed_tree.specs.declared.shape.Signature.{Signature}
use Rattle.typed_tree.specs.declared.known_types.Types.{Types}
use Rattle.typed_tree.specs.Names.{find_name}
use Rattle.def_typing.specs.Operators.{Kind}
use Rattle.def_typing.specs.Things.{AValue, AVariable, AType, Standing, Known}
use Rattle.def_typing.specs.Parts.{later, Named}
use Rattle.def_typing.specs.Headings.{procedure_made}
use Rattle.def_typing.specs.TypeExprs.{Member, member_stands, Added, type_added, Setting}
use Rattle.def_typing.specs.Declarations as rules
use Rattle.def_typing.specs.Declarations.{Declaration, names_of, AnyDeclares, Declared, in_order, IsThere, IsNamed, nearest, farther, procedure, is_variables, in_front_of, without, Says, Brings, There, StandsFor, IsAdded, Means, IsOwn, AllAdded, AllStand, setting}
use Rattle.law_typing.proofs.Fixing.{constant_one}
use Rattle.law_typing.proofs.Declaring.{any_named, one_named, any_first, one_first}
use Rattle.law_readings.proofs.Computing.{both, some_one}
use Rattle.law_readings.proofs.Fixing.{fixes_one}
use Rattle.law_readings.proofs.Typing.{heading_one, type_number_one, adds_one}

-- ---- one declaration

module _ (exports : ℕ → Ident → Standing) (w : Setting) where
  says_one : {nested : Bool} {d : Declaration} {a b : Added} {s t : Standing}
      → Says exports w nested d a s → Says exports w nested d b t → s ≡ t
  says_one (rules.constant f) (rules.constant h) =
      ap (λ (k : Kind). Known (AValue k)) (constant_one (fixes_one exports w.names w.types f h))
  says_one (rules.a_type m) (rules.a_type n) =
      ap (λ (t : TypeNo). Known (AType t)) (type_number_one exports m n)
  says_one (rules.variables m) (rules.variables n) =
      ap (λ (t : TypeNo). Known (AVariable t)) (type_number_one exports m n)
  says_one (rules.a_procedure h) (rules.a_procedure k) = refl

  brings_one : {Th : List ℕ → Type 0} {d : Declaration} {a b : Added} → Brings exports w Th d a
      → Brings exports w Th d b → a ≡ b
  brings_one rules.constant_brings rules.constant_brings = refl
  brings_one (rules.type_brings a) (rules.type_brings b) = adds_one exports a b
  brings_one (rules.variables_bring a) (rules.variables_bring b) = adds_one exports a b
  brings_one (rules.procedure_brings n h) (rules.procedure_brings m k) =
      ap (λ (s : Signature). type_added (procedure_made s))
      (heading_one w.names exports w.types h k)
  brings_one (rules.procedure_brings n h) (rules.name_there t) = absurd (n t)
  brings_one (rules.procedure_brings n h) (rules.no_heading m) = absurd (m _ h)
  brings_one (rules.name_there t) (rules.procedure_brings m k) = absurd (m t)
  brings_one (rules.name_there t) (rules.name_there u) = refl
  brings_one (rules.name_there t) (rules.no_heading m) = refl
  brings_one (rules.no_heading m) (rules.procedure_brings n k) = absurd (m _ k)
  brings_one (rules.no_heading m) (rules.name_there u) = refl
  brings_one (rules.no_heading m) (rules.no_heading n) = refl

-- ---- what stands in front

more_there : {n : List ℕ} (x : Declared) (front : List Declared) → IsThere front n
    → IsThere (x ∷ front) n
more_there x front a = (a.0, later a.1, a.2)

-- what stands in front of a declaration stands behind it too
before_there : {n m : List ℕ} {d : Declared} {before front : List Declared}
    → IsNamed n d before front → IsThere before m → IsThere front m
before_there {d = d} {before = before} (nearest h c) a = more_there d before a
before_there (farther {x = x} {front = front} i) a = more_there x front (before_there i a)

module _ (types : Types) (exports : ℕ → Ident → Standing) (outside : Ident → Standing)
    (taken : List ℕ → Bool) (awaited : List ℕ → Option TypeNo) (nested : Bool)
    (block : List Declaration) where
  abbrev Stands : List Declared → Ident → Standing → Type 0
  Stands = StandsFor types exports outside taken awaited nested block

  abbrev Meant : List Declared → Declared → Standing → Type 0
  Meant = Means types exports outside taken awaited nested block

  abbrev Adding : List Declared → Declared → Type 0
  Adding = IsAdded types exports outside taken awaited nested block

  abbrev Set : List Declared → Declaration → (Ident → Standing) → Setting
  Set = setting types exports outside taken awaited nested block

  abbrev Theres : List Declared → List ℕ → Type 0
  Theres = There types exports outside taken awaited nested block

  -- These stand in the block.
  abbrev pub IsWithin : List Declared → Type 0
  IsWithin front = (n : List ℕ) → IsThere front n → AnyDeclares block n

  mutual
    stands_one : {front : List Declared} {name : Ident} {s t : Standing} → IsWithin front
        → Stands front name s → Stands front name t → s ≡ t
    stands_one {t = u} within (rules.declared t i o m) (rules.declared v k p n) =
        means_one (λ n a. within n (before_there i a)) m (one_named (λ b d. Meant b d u) i k n)
    stands_one {name = name} within (rules.declared t i o m) (rules.enumerated v k p d e) =
        absurd (one_named (λ b c. Named (names_of c.what) name.name → ⊥) i k p o)
    stands_one within (rules.declared t i o m) (rules.not_yet v k n) = absurd (n (any_named i))
    stands_one {name = name} within (rules.declared t i o m) (rules.from_outside c) =
        absurd (c t (within name.name (any_named i)))
    stands_one {name = name} within (rules.enumerated t i o a e) (rules.declared v k p n) =
        absurd (o (one_named (λ b c. Named (names_of c.what) name.name) i k p))
    stands_one {name = name} within (rules.enumerated t i o a e)
        (rules.enumerated {e = y} v k p b f) =
        ap (λ (e : Member). member_stands e)
        (some_one (sym e ∙ one_named (λ b c. find_name name.name c.adds.brings ≡ Some y) i k f))
    stands_one within (rules.enumerated t i o a e) (rules.not_yet v k n) = absurd (n (any_named i))
    stands_one {name = name} within (rules.enumerated t i o a e) (rules.from_outside c) =
        absurd (c t (within name.name (any_named i)))
    stands_one within (rules.not_yet t i n) (rules.declared v k p m) = absurd (n (any_named k))
    stands_one within (rules.not_yet t i n) (rules.enumerated v k p d e) = absurd (n (any_named k))
    stands_one within (rules.not_yet t i n) (rules.not_yet {d = c} v k m) =
        one_first (λ (x : Declaration). in_front_of x ≡ in_front_of c) i k refl
    stands_one within (rules.not_yet t i n) (rules.from_outside c) = absurd (c t (any_first i))
    stands_one {name = name} within (rules.from_outside c) (rules.declared v k p m) =
        absurd (c v (within name.name (any_named k)))
    stands_one {name = name} within (rules.from_outside c) (rules.enumerated v k p d e) =
        absurd (c v (within name.name (any_named k)))
    stands_one within (rules.from_outside c) (rules.not_yet v k n) = absurd (c v (any_first k))
    stands_one within (rules.from_outside c) (rules.from_outside d) = refl

    means_one : {front : List Declared} {d : Declared} {s t : Standing} → IsWithin front
        → Meant front d s → Meant front d t → s ≡ t
    means_one {front = front} {d = d} {t = t} within (rules.says {names = names} all x)
        (rules.says {names = others} more y) =
        let e = fun_ext (λ name. stands_one within (all name) (more name)) in
        says_one exports (Set front d.what names) x
        (subst
        (λ (names : Ident → Standing). Says exports (Set front d.what names) nested d.what d.adds t)
        (sym e) y)
    means_one {front = front} {d = d} {s = s} within (rules.says {names = names} all x)
        (rules.says_nothing {names = others} more n) =
        let e = fun_ext (λ name. stands_one within (all name) (more name)) in
        absurd (n _ _ (subst
        (λ (names : Ident → Standing). Says exports (Set front d.what names) nested d.what d.adds s)
        e x))
    means_one {front = front} {d = d} {t = t} within (rules.says_nothing {names = names} all n)
        (rules.says {names = others} more y) =
        let e = fun_ext (λ name. stands_one within (all name) (more name)) in
        absurd (n _ _ (subst
        (λ (names : Ident → Standing). Says exports (Set front d.what names) nested d.what d.adds t)
        (sym e) y))
    means_one within (rules.says_nothing all n) (rules.says_nothing more m) = refl

  pub all_one : {front : List Declared} {names others : Ident → Standing}
      → IsWithin front
      → AllStand types exports outside taken awaited nested block front names
      → AllStand types exports outside taken awaited nested block front others
      → names ≡ others
  all_one within all more = fun_ext (λ name. stands_one within (all name) (more name))

  added_one : {front : List Declared} {d c : Declared} → IsWithin front → d.what ≡ c.what
      → Adding front d → Adding front c → d ≡ c
  added_one {front = front} {d = d} {c = c} within e (rules.is_added {names = names} all x)
      (rules.is_added {names = others} more y) =
      let z = all_one within all more in
      let k : Brings exports (Set front d.what names) (Theres front) d.what c.adds = subst
      (λ (w : Declaration). Brings exports (Set front w names) (Theres front) w c.adds) (sym e)
      (subst
      (λ (names : Ident → Standing).
      Brings exports (Set front c.what names) (Theres front) c.what c.adds)
      (sym z) y) in
      both (λ (w : Declaration) (a : Added). let x : Declared = record { what = w; adds = a } in x)
      e (brings_one exports (Set front d.what names) x k)

  own_one : (outer : Ident → Bool) {front : List Declared} {name : Ident} {b c : Bool}
      → IsWithin front
      → IsOwn types exports outside taken awaited nested block outer front name b
      → IsOwn types exports outside taken awaited nested block outer front name c
      → b ≡ c
  own_one outer within (rules.of_block t i o) (rules.of_block {d = c} u k p) =
      one_named (λ b x. is_variables x.what ≡ is_variables c.what) i k refl
  own_one outer {name = name} within (rules.of_block t i o) (rules.of_enumeration u k p) =
      absurd (one_named (λ b c. Named (names_of c.what) name.name → ⊥) i k p o)
  own_one outer within (rules.of_block t i o) (rules.of_none u a c) = absurd (c (any_named i))
  own_one outer {name = name} within (rules.of_block t i o) (rules.of_outside c) =
      absurd (c t (within name.name (any_named i)))
  own_one outer {name = name} within (rules.of_enumeration t i o) (rules.of_block u k p) =
      absurd (o (one_named (λ b c. Named (names_of c.what) name.name) i k p))
  own_one outer within (rules.of_enumeration t i o) (rules.of_enumeration u k p) = refl
  own_one outer within (rules.of_enumeration t i o) (rules.of_none u a c) = refl
  own_one outer {name = name} within (rules.of_enumeration t i o) (rules.of_outside c) =
      absurd (c t (within name.name (any_named i)))
  own_one outer within (rules.of_none t a n) (rules.of_block u k p) = absurd (n (any_named k))
  own_one outer within (rules.of_none t a n) (rules.of_enumeration u k p) = refl
  own_one outer within (rules.of_none t a n) (rules.of_none u b m) = refl
  own_one outer within (rules.of_none t a n) (rules.of_outside c) = absurd (c t a)
  own_one outer {name = name} within (rules.of_outside c) (rules.of_block u k p) =
      absurd (c u (within name.name (any_named k)))
  own_one outer {name = name} within (rules.of_outside c) (rules.of_enumeration u k p) =
      absurd (c u (within name.name (any_named k)))
  own_one outer within (rules.of_outside c) (rules.of_none u b m) = absurd (c u b)
  own_one outer within (rules.of_outside c) (rules.of_outside d) = refl

  pub owns_one : (outer : Ident → Bool) {front : List Declared} {own others : Ident → Bool}
      → IsWithin front
      → ((name : Ident)
      → IsOwn types exports outside taken awaited nested block outer front name (own name))
      → ((name : Ident)
      → IsOwn types exports outside taken awaited nested block outer front name (others name))
      → own ≡ others
  owns_one outer within all more = fun_ext (λ name. own_one outer within (all name) (more name))

  -- ---- all declarations of a block

  first_same : {x y : Declaration} {xs ys : List Declaration} → x ∷ xs ≡ y ∷ ys → x ≡ y
  first_same q = cc

  rest_same : {x y : Declaration} {xs ys : List Declaration} → x ∷ xs ≡ y ∷ ys → xs ≡ ys
  rest_same q = cc

  none_behind : (xs : List Declaration) (x : Declaration) → [] ≡ xs ++ x ∷ [] → ⊥
  none_behind [] x e = absurd cc
  none_behind (y ∷ xs) x e = absurd cc

  fronts_same : (xs ys : List Declaration) (x y : Declaration) → xs ++ x ∷ [] ≡ ys ++ y ∷ []
      → xs ≡ ys
  fronts_same [] [] x y e = refl
  fronts_same [] (z ∷ ys) x y e = absurd (none_behind ys y (rest_same e))
  fronts_same (z ∷ xs) [] x y e = absurd (none_behind xs x (sym (rest_same e)))
  fronts_same (z ∷ xs) (v ∷ ys) x y e =
      both (λ (x : Declaration) (xs : List Declaration). x ∷ xs) (first_same e)
      (fronts_same xs ys x y (rest_same e))

  last_same : (xs ys : List Declaration) (x y : Declaration) → xs ++ x ∷ [] ≡ ys ++ y ∷ [] → x ≡ y
  last_same [] [] x y e = first_same e
  last_same [] (z ∷ ys) x y e = absurd (none_behind ys y (rest_same e))
  last_same (z ∷ xs) [] x y e = absurd (none_behind xs x (sym (rest_same e)))
  last_same (z ∷ xs) (v ∷ ys) x y e = last_same xs ys x y (rest_same e)

  pub whole_one : {whole others : List Declared}
      → IsWithin whole
      → in_order whole ≡ in_order others
      → AllAdded types exports outside taken awaited nested block whole
      → AllAdded types exports outside taken awaited nested block others
      → whole ≡ others
  whole_one within e rules.nothing_declared rules.nothing_declared = refl
  whole_one within e rules.nothing_declared (rules.each_added {front = front} {d = d} b q) =
      absurd (none_behind (in_order front) d.what e)
  whole_one within e (rules.each_added {front = front} {d = d} a r) rules.nothing_declared =
      absurd (none_behind (in_order front) d.what (sym e))
  whole_one within e (rules.each_added {front = front} {d = d} a r)
      (rules.each_added {front = back} {d = c} b q) =
      let inner : IsWithin front = λ n t. within n (more_there d front t) in
      let z = whole_one inner (fronts_same (in_order front) (in_order back) d.what c.what e) r q in
      both (λ (d : Declared) (ds : List Declared). d ∷ ds)
      (added_one inner (last_same (in_order front) (in_order back) d.what c.what e) a
      (subst (λ (front : List Declared). Adding front c) (sym z) b))
      z
