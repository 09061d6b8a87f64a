-- Formals are numbered in their order.
use Rattle.std.proofs.Common.{◌≡◌, ℕ, zero, suc, ◌+◌, Bool, true, false, cond, List, [], ◌∷◌, ◌++◌, length, Option, Some, None, Result, Ok, ◌⊎◌, inl, inr, refl, sym, ap, subst, ◌∙◌, arith}
use Rattle.std.specs.Prelude.{◌||◌}
use Rattle.std.specs.List.{fold}
use Rattle.std.specs.Option.{is_some}
use Rattle.std.proofs.lemmas.List.{length-append}
use Rattle.m2_tree.specs.Names.{same_name}
use Rattle.m2_tree.specs.declared.name.Ident.{Ident}
use Rattle.m2_tree.specs.declared.decl.Section.{Section}
use Rattle.typed_tree.specs.declared.shape.Formal.{Formal}
use Rattle.typed_tree.specs.Names.{find_name, enter_name}
use Rattle.check_scope.specs.declared.known.Known.{Known}
use Rattle.check_scope.specs.declared.known.Known.TheVariants.{Declared}
use Rattle.check_scope.specs.declared.known.Origin.TheVariants.{Here}
use Rattle.check_scope.specs.declared.scope.Scope.{Scope}
use Rattle.check_scope.specs.Elaborated.{Gathers}
use Rattle.check_type_expr.specs.Headings.{formal_of}
use Rattle.check_block.specs.Inner.{formal_meaning, unless_found, Formals, with_formal, with_section}
use Rattle.def_typing.specs.Parts.{Among, here, later}
use Rattle.def_typing.specs.Declarations.{is_among, names_in}
use Rattle.def_typing.specs.Bodies.{formal_named}
use Rattle.def_typed.specs.Blocks.{IsFirstAt, at_first, later_on}
use Rattle.law_typing.proofs.Combining.{Decided, holds, fails_it}
use Rattle.law_typing.proofs.Entering.{name_decided, entered_all}

decided_true : {P : Type 0} {b : Bool} → Decided P b → P → b ≡ true
decided_true (holds p) q = refl
decided_true (fails_it c) q = absurd (c q)

decided_false : {P : Type 0} {b : Bool} → Decided P b → (P → ⊥) → b ≡ false
decided_false (holds p) c = absurd (c p)
decided_false (fails_it c) d = refl

some_none : {A : Type 0} {o : Option A} {a : A} → o ≡ Some a → o ≡ None → ⊥
some_none e q = let z = sym e ∙ q in absurd cc

module _ (n : List ℕ) where
  -- ---- places

  among_more : (x : Ident) (xs : List Ident) {b : Bool} → same_name x.name n ≡ b
      → is_among n (x ∷ xs) ≡ (b || is_among n xs)
  among_more x xs e = ap (λ (b : Bool). b || is_among n xs) e

  first_among : {xs : List Ident} {i : ℕ} → IsFirstAt n xs i → is_among n xs ≡ true
  first_among (at_first {x = x} {xs = xs} e) = among_more x xs (decided_true (name_decided x.name n) e)
  first_among (later_on {x = x} {xs = xs} c r) = among_more x xs (decided_false (name_decided x.name n) c)
      ∙ first_among r

  among_first : (xs : List Ident) → is_among n xs ≡ true → (i : ℕ) × IsFirstAt n xs i
  among_first [] e = absurd cc
  among_first (x ∷ xs) e = by_first (name_decided x.name n) e (λ q. among_first xs q)
    where
      by_first : {b : Bool} → Decided (x.name ≡ n) b → (b || is_among n xs) ≡ true
          → (is_among n xs ≡ true → (i : ℕ) × IsFirstAt n xs i) → (i : ℕ) × IsFirstAt n (x ∷ xs) i
      by_first (holds q) e more = (zero, at_first q)
      by_first (fails_it c) e more = let r = more e in (suc r.0, later_on c r.1)

  -- a place in two lists
  abbrev Splits : List Ident → List Ident → ℕ → Type 0
  Splits xs ys i = IsFirstAt n xs i ⊎ ((k : ℕ) × (i ≡ length xs + k) × IsFirstAt n ys k × (is_among n xs ≡ false))

  split_first : (xs ys : List Ident) {i : ℕ} → IsFirstAt n (xs ++ ys) i → Splits xs ys i
  split_first [] ys {i = i} f = inr (i, omega arith, f, refl)
  split_first (x ∷ xs) ys (at_first e) = inl (at_first e)
  split_first (x ∷ xs) ys (later_on c f) = elim (split_first xs ys f) [
    | inl a ↦ inl (later_on c a)
    | inr z ↦ let e = z.1 in inr (
      z.0,
      omega (arith, e),
      z.2,
      among_more x xs (decided_false (name_decided x.name n) c)
          ∙ z.3,
    )
  ]

  join_left : {xs : List Ident} {i : ℕ} (ys : List Ident) → IsFirstAt n xs i → IsFirstAt n (xs ++ ys) i
  join_left ys (at_first e) = at_first e
  join_left ys (later_on c f) = later_on c (join_left ys f)

  join_right : (xs : List Ident) {ys : List Ident} {k : ℕ} → is_among n xs ≡ false → IsFirstAt n ys k → (i : ℕ)
      × IsFirstAt n (xs ++ ys) i
  join_right [] {k = k} e f = (k, f)
  join_right (x ∷ xs) {ys = ys} e f = by_first (name_decided x.name n) e (λ q. join_right xs q f)
    where
      by_first : {b : Bool} → Decided (x.name ≡ n) b → (b || is_among n xs) ≡ false
          → (is_among n xs ≡ false → (i : ℕ) × IsFirstAt n (xs ++ ys) i) → (i : ℕ) × IsFirstAt n (x ∷ (xs ++ ys)) i
      by_first (holds q) e more = absurd cc
      by_first (fails_it c) e more = let r = more e in (suc r.0, later_on c r.1)

  -- the place of a formal
  pub formal_place : (xs : List Section) {y : Section} → formal_named n xs ≡ Some y → (i : ℕ)
      × IsFirstAt n (names_in xs) i
  formal_place [] e = absurd cc
  formal_place (x ∷ xs) {y = y} e = by_among (is_among n x.names) refl e (λ q. formal_place xs q)
    where
      by_among : (b : Bool) → is_among n x.names ≡ b → cond b (Some x) (formal_named n xs) ≡ Some y
          → (formal_named n xs ≡ Some y → (i : ℕ) × IsFirstAt n (names_in xs) i) → (i : ℕ)
          × IsFirstAt n (x.names ++ names_in xs) i
      by_among true q e more = let r = among_first x.names q in (r.0, join_left (names_in xs) r.1)
      by_among false q e more = let r = more e in join_right x.names q r.1

  -- ---- one name more

  module _ {T : Type 0} (level : ℕ) where
    abbrev pub entry : ℕ → Result Formal T → Known T
    entry k f = Declared Here (formal_meaning level k f)

    other_by : (x : List ℕ) (v : Known T) (ns : List (List ℕ × Known T)) (b : Bool) → (x ≡ n → ⊥)
        → find_name n (cond b ns (enter_name x v ns)) ≡ find_name n ns
    other_by x v ns true c = refl
    other_by x v ns false c = entered_all (λ (m : List ℕ) (o : Option (Known T)). (x ≡ m → ⊥) → o ≡ find_name m ns) x v
        ns (λ c. absurd (c refl)) (λ m c d. refl) n c

    here_by : (x : List ℕ) (v : Known T) (ns : List (List ℕ × Known T)) → x ≡ n → find_name n ns ≡ None
        → find_name n (unless_found x v ns) ≡ Some v
    here_by x v ns e q = ap (λ (o : Option (Known T)). find_name n (cond (is_some o) ns (enter_name x v ns)))
        (ap (λ (m : List ℕ). find_name m ns) e ∙ q)
        ∙ entered_all (λ (m : List ℕ) (o : Option (Known T)). x ≡ m → o ≡ Some v) x v ns (λ e. refl)
        (λ m c d. absurd (c d)) n e

    stays_by : (x : List ℕ) (v w : Known T) (ns : List (List ℕ × Known T)) {b : Bool} → Decided (x ≡ n) b
        → find_name n ns ≡ Some w → find_name n (unless_found x v ns) ≡ Some w
    stays_by x v w ns (holds e) q = ap (λ (o : Option (Known T)). find_name n (cond (is_some o) ns (enter_name x v ns)))
        (ap (λ (m : List ℕ). find_name m ns) e ∙ q) ∙ q
    stays_by x v w ns (fails_it c) q = other_by x v ns (is_some (find_name x ns)) c ∙ q

    -- ---- one section

    names_stay : (f : Result Formal T) (xs : List Ident) (fs : Formals T) (w : Known T) → find_name n fs.0 ≡ Some w
        → find_name n (fold (with_formal level f) fs xs).0 ≡ Some w
    names_stay f [] fs w e = e
    names_stay f (x ∷ xs) fs w e = names_stay f xs (with_formal level f fs x) w
        (stays_by x.name (entry (length fs.1) f) w fs.0 (name_decided x.name n) e)

    names_leave : (f : Result Formal T) (xs : List Ident) (fs : Formals T) → is_among n xs ≡ false
        → find_name n (fold (with_formal level f) fs xs).0 ≡ find_name n fs.0
    names_leave f [] fs e = refl
    names_leave f (x ∷ xs) fs e = by_first (name_decided x.name n) e
        (λ q. names_leave f xs (with_formal level f fs x) q)
      where
        by_first : {b : Bool} → Decided (x.name ≡ n) b → (b || is_among n xs) ≡ false
            → (is_among n xs ≡ false → find_name n (fold (with_formal level f) (with_formal level f fs x) xs).0
            ≡ find_name n (with_formal level f fs x).0)
            → find_name n (fold (with_formal level f) (with_formal level f fs x) xs).0 ≡ find_name n fs.0
        by_first (holds q) e more = absurd cc
        by_first (fails_it c) e more = more e
            ∙ other_by x.name (entry (length fs.1) f) fs.0 (is_some (find_name x.name fs.0)) c

    names_at : (f : Formal) {xs : List Ident} (fs : Formals T) {i : ℕ} → IsFirstAt n xs i → find_name n fs.0 ≡ None
        → find_name n (fold (with_formal level (Ok f)) fs xs).0 ≡ Some (entry (length fs.1 + i) (Ok f))
    names_at f fs (at_first {x = x} {xs = xs} e) q =
        let z : length fs.1 ≡ length fs.1 + 0 = omega arith in
        names_stay (Ok f) xs (with_formal level (Ok f) fs x) (entry (length fs.1 + 0) (Ok f))
        (here_by x.name (entry (length fs.1) (Ok f)) fs.0 e q ∙ ap (λ (k : ℕ). Some (entry k (Ok f))) z)
    names_at f fs (later_on {x = x} {xs = xs} {i = i} c r) q =
        let l = length-append fs.1 (f.of ∷ []) in
        let z : length (fs.1 ++ f.of ∷ []) + i ≡ length fs.1 + suc i = omega (arith, l) in
        names_at f (with_formal level (Ok f) fs x) r
        (other_by x.name (entry (length fs.1) (Ok f)) fs.0 (is_some (find_name x.name fs.0)) c ∙ q)
        ∙ ap (λ (k : ℕ). Some (entry k (Ok f))) z

    names_count : (f : Formal) (xs : List Ident) (fs : Formals T)
        → length (fold (with_formal level (Ok f)) fs xs).1 ≡ length fs.1 + length xs
    names_count f [] fs = omega arith
    names_count f (x ∷ xs) fs = let l = length-append fs.1 (f.of ∷ []) in
        let r = names_count f xs (with_formal level (Ok f) fs x) in omega (arith, l, r)

  -- ---- all sections

  module _ (g : Gathers) (s : Scope g.Reported) where
    abbrev of_section : Section → Result Formal g.Reported
    of_section x = formal_of g s x.is_var x.of

    sections_stay : (xs : List Section) (fs : Formals g.Reported) (w : Known g.Reported) → find_name n fs.0 ≡ Some w
        → find_name n (fold (with_section g s) fs xs).0 ≡ Some w
    sections_stay [] fs w e = e
    sections_stay (x ∷ xs) fs w e = sections_stay xs (with_section g s fs x) w
        (names_stay s.level (of_section x) x.names fs w e)

    pub sections_leave : (xs : List Section) (fs : Formals g.Reported) → formal_named n xs ≡ None
        → find_name n (fold (with_section g s) fs xs).0 ≡ find_name n fs.0
    sections_leave [] fs e = refl
    sections_leave (x ∷ xs) fs e = by_among (is_among n x.names) refl e
        (λ q. sections_leave xs (with_section g s fs x) q)
      where
        by_among : (b : Bool) → is_among n x.names ≡ b → cond b (Some x) (formal_named n xs) ≡ None
            → (formal_named n xs ≡ None → find_name n (fold (with_section g s) (with_section g s fs x) xs).0
            ≡ find_name n (with_section g s fs x).0)
            → find_name n (fold (with_section g s) (with_section g s fs x) xs).0 ≡ find_name n fs.0
        by_among true q e more = absurd cc
        by_among false q e more = more e ∙ names_leave s.level (of_section x) x.names fs q

    abbrev pub Fine : Section → Type 0
    Fine x = (f : Formal) × (of_section x ≡ Ok f)

    -- what a formal at this place is
    abbrev pub At : Section → ℕ → Option (Known g.Reported) → Type 0
    At y k o = (f : Formal) × (of_section y ≡ Ok f) × (o ≡ Some (entry s.level k (Ok f)))

    some_same : {x y : Section} → ◌≡◌ {A = Option Section} (Some x) (Some y) → x ≡ y
    some_same e = cc

    pub sections_at : (xs : List Section) (fs : Formals g.Reported) → ((x : Section) → Among x xs → Fine x)
        → find_name n fs.0 ≡ None → (i : ℕ) → IsFirstAt n (names_in xs) i → (y : Section) → formal_named n xs ≡ Some y
        → At y (length fs.1 + i) (find_name n (fold (with_section g s) fs xs).0)
    sections_at [] fs ok q i f y e = absurd cc
    sections_at (x ∷ xs) fs ok q i f y e =
        by_place (ok x here) (split_first x.names (names_in xs) f)
        (λ k. sections_at xs (with_section g s fs x) (λ z m. ok z (later m)) k)
      where
        IsNamed : Type 0
        IsNamed = find_name n (with_section g s fs x).0 ≡ None → (i : ℕ) → IsFirstAt n (names_in xs) i → (y : Section)
            → formal_named n xs ≡ Some y
            → At y (length (with_section g s fs x).1 + i)
            (find_name n (fold (with_section g s) (with_section g s fs x) xs).0)

        here_at : (z : Fine x) → IsFirstAt n x.names i
            → find_name n (with_section g s fs x).0 ≡ Some (entry s.level (length fs.1 + i) (Ok z.0))
        here_at z f = ap (λ (r : Result Formal g.Reported). find_name n (fold (with_formal s.level r) fs x.names).0) z.1
            ∙ names_at s.level z.0 fs f q

        counted : (z : Fine x) → length (with_section g s fs x).1 ≡ length fs.1 + length x.names
        counted z = ap (λ (r : Result Formal g.Reported). length (fold (with_formal s.level r) fs x.names).1) z.1
            ∙ names_count s.level z.0 x.names fs

        same_section : IsFirstAt n x.names i → x ≡ y
        same_section f = some_same (sym (ap (λ (b : Bool). cond b (Some x) (formal_named n xs)) (first_among f)) ∙ e)

        by_place : Fine x → Splits x.names (names_in xs) i → IsNamed
            → At y (length fs.1 + i) (find_name n (fold (with_section g s) (with_section g s fs x) xs).0)
        by_place z (inl f) more = subst (λ (y : Section). At y (length fs.1 + i)
            (find_name n (fold (with_section g s) (with_section g s fs x) xs).0)) (same_section f) (
              z.0,
              z.1,
              sections_stay xs (with_section g s fs x) (entry s.level (length fs.1 + i) (Ok z.0))
                  (here_at z f),
            )
        by_place z (inr r) more =
            let c = counted z in
            let k = r.1 in
            let w : length (with_section g s fs x).1 + r.0 ≡ length fs.1 + i = omega (arith, c, k) in
            subst (λ (k : ℕ). At y k (find_name n (fold (with_section g s) (with_section g s fs x) xs).0)) w
            (more (names_leave s.level (of_section x) x.names fs r.3 ∙ q) r.0 r.2 y
            (sym (ap (λ (b : Bool). cond b (Some x) (formal_named n xs)) r.3) ∙ e))

-- ---- how many formals there are

module _ (g : Gathers) (s : Scope g.Reported) where
  section_count : (x : Section) (f : Formal) → formal_of g s x.is_var x.of ≡ Ok f → (fs : Formals g.Reported)
      → length (with_section g s fs x).1 ≡ length fs.1 + length x.names
  section_count x f e fs = ap (λ (r : Result Formal g.Reported). length (fold (with_formal s.level r) fs x.names).1) e
      ∙ names_count [] s.level f x.names fs

  pub sections_count : (xs : List Section) (fs : Formals g.Reported)
      → ((x : Section) → Among x xs → (f : Formal) × (formal_of g s x.is_var x.of ≡ Ok f))
      → length (fold (with_section g s) fs xs).1 ≡ length fs.1 + length (names_in xs)
  sections_count [] fs ok = omega arith
  sections_count (x ∷ xs) fs ok =
      let f = ok x here in
      let c = section_count x f.0 f.1 fs in
      let r = sections_count xs (with_section g s fs x) (λ z m. ok z (later m)) in
      let l = length-append x.names (names_in xs) in omega (arith, c, r, l)
