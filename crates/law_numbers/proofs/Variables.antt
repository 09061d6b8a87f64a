-- The variables that a block declares are numbered in order.
use Rattle.std.proofs.Common.{◌≡◌, ◌⊎◌, inl, inr, ℕ, suc, zero, ◌+◌, Bool, true, false, cond, List, [], ◌∷◌, ◌++◌, length, Option, Some, Result, Ok, Err, refl, sym, ap, subst, ◌∙◌, arith}
use Rattle.std.proofs.lemmas.List.{length-append}
use Rattle.std.specs.Prelude.{slice_get}
use Rattle.std.specs.List.{fold}
use Rattle.m2_rule.specs.declared.rule.Rule.TheVariants as rule
use Rattle.m2_tree.specs.declared.name.Ident.{Ident}
use Rattle.typed_tree.specs.declared.types.TypeNo.{TypeNo}
use Rattle.typed_tree.specs.declared.shape.Made.{Made}
use Rattle.typed_tree.specs.declared.meaning.Meaning.{Meaning}
use Rattle.typed_tree.specs.declared.meaning.Procedure.{Procedure as ModuleProcedure}
use Rattle.typed_tree.specs.Names.{find_name}
use Rattle.check_scope.specs.Elaborated.{Gathers, beside, report}
use Rattle.check_scope.specs.Scopes.{State, with_known, begin_name, finish_name, is_free, is_begun}
use Rattle.check_scope.specs.declared.known.Known.{Known}
use Rattle.check_scope.specs.declared.known.Known.TheVariants.{Begun, Declared}
use Rattle.check_scope.specs.declared.known.Origin.TheVariants.{Here}
use Rattle.check_scope.specs.declared.scope.Scope.{Scope}
use Rattle.check_type_expr.specs.Made.{with_shape, nothing_of}
use Rattle.check_definition.specs.Declare.{begun_name, with_variable_type, with_procedure_type}
use Rattle.check_block.specs.declared.heading.Standing.TheVariants.{Awaited, Taken}
use Rattle.check_block.specs.Headings.{name_standing}
use Rattle.def_typing.specs.Parts.{Among, here, later}
use Rattle.law_typing.proofs.Entering.{entered_all}
use Rattle.law_numbers.specs.Numbered.{Entry}
use Rattle.law_numbers.proofs.Walking.{begun_all, begun_stays}

-- ---- results

module _ (g : Gathers) where
  pub beside_first : (a b : Result (Unit {0}) g.Reported) → beside g a b ≡ Ok tt → a ≡ Ok tt
  beside_first (Ok x) (Ok y) e = refl
  beside_first (Ok x) (Err r) e = absurd cc
  beside_first (Err r) (Ok y) e = absurd cc
  beside_first (Err r) (Err q) e = absurd cc

  pub beside_second : (a b : Result (Unit {0}) g.Reported) → beside g a b ≡ Ok tt → b ≡ Ok tt
  beside_second (Ok x) (Ok y) e = refl
  beside_second (Ok x) (Err r) e = absurd cc
  beside_second (Err r) (Ok y) e = absurd cc
  beside_second (Err r) (Err q) e = absurd cc

  pub type_there : (r : Result TypeNo g.Reported) → nothing_of r ≡ Ok tt → (u : TypeNo) × (r ≡ Ok u)
  type_there (Ok u) e = (u, refl)
  type_there (Err r) e = absurd cc

pub get_left : {A : Type 0} (xs ys : List A) (i : ℕ) (a : A) → slice_get xs i ≡ Some a → slice_get (xs ++ ys) i ≡ Some a
get_left [] ys i a e = absurd cc
get_left (x ∷ xs) ys zero a e = e
get_left (x ∷ xs) ys (suc i) a e = get_left xs ys i a e

get_last : {A : Type 0} (xs : List A) (a : A) → slice_get (xs ++ a ∷ []) (length xs) ≡ Some a
get_last [] a = refl
get_last (x ∷ xs) a = get_last xs a

split_more : {A : Type 0} (vs xs : List A) (i : ℕ) (x : A)
    → ((slice_get vs i ≡ Some x) ⊎ ((k : ℕ) × (i ≡ length vs + k) × (slice_get xs k ≡ Some x))) → (v : A)
    → (slice_get (v ∷ vs) (suc i) ≡ Some x) ⊎ ((k : ℕ) × (suc i ≡ length (v ∷ vs) + k) × (slice_get xs k ≡ Some x))
split_more vs xs i x (inl e) v = inl e
split_more vs xs i x (inr (k, q, e)) v = inr (k, omega (arith, q), e)

pub split_place : {A : Type 0} (vs xs : List A) (i : ℕ) (x : A) → slice_get (vs ++ xs) i ≡ Some x
    → (slice_get vs i ≡ Some x) ⊎ ((k : ℕ) × (i ≡ length vs + k) × (slice_get xs k ≡ Some x))
split_place [] xs i x e = inr (i, omega arith, e)
split_place (v ∷ vs) xs zero x e = inl e
split_place (v ∷ vs) xs (suc i) x e = split_more vs xs i x (split_place vs xs i x e) v

-- ---- what stands under a name

module _ {T : Type 0} where
  pub entered_here : (s : Scope T) (name : List ℕ) (k : Known T) → Entry (with_known name k s) name k
  entered_here s name k = entered_all (λ (n : List ℕ) (o : Option (Known T)). n ≡ name → o ≡ Some k) name k s.own
      (λ e. refl) (λ n c e. absurd (c (sym e))) name refl

  pub entered_other : (s : Scope T) (name n : List ℕ) (k l : Known T) → (name ≡ n → ⊥) → Entry s n l
      → Entry (with_known name k s) n l
  entered_other s name n k l c e = entered_all (λ (m : List ℕ) (o : Option (Known T)). m ≡ n → o ≡ Some l) name k s.own
      (λ q. absurd (c q)) (λ m d q. subst (λ (z : List ℕ). find_name z s.own ≡ Some l) (sym q) e) n refl

  -- what is entered under a name that means something else
  pub entered_beside : (s : Scope T) (name n : List ℕ) (k l : Known T) (P : Option (Known T) → Type 0)
      → P (find_name name s.own) → (P (Some l) → ⊥) → Entry s n l → Entry (with_known name k s) n l
  entered_beside s name n k l P p not_p e =
      entered_other s name n k l (λ q. not_p (subst P (ap (λ (z : List ℕ). find_name z s.own) q ∙ e) p)) e

-- a variable that was declared here
abbrev pub IsFixed : {T : Type 0} → Known T → Type 0
IsFixed k = (is_free (Some k) ≡ false) × (is_begun (Some k) ≡ false)
    × ((p : ModuleProcedure) → name_standing (Some k) ≡ Awaited p → ⊥)

module _ (g : Gathers) where
  abbrev S : Type 0
  S = Scope g.Reported

  clash : {b : Bool} → b ≡ true → b ≡ false → ⊥
  clash p q = let z = sym p ∙ q in absurd cc

  pub free_beside : (n : List ℕ) (l : Known g.Reported) → is_free (Some l) ≡ false
      → (s : S) (name : List ℕ) (k : Known g.Reported) → is_free (find_name name s.own) ≡ true → Entry s n l
      → Entry (with_known name k s) n l
  free_beside n l f s name k e h = entered_beside s name n k l (λ o. is_free o ≡ true) e (λ q. clash q f) h

  pub begun_beside : (n : List ℕ) (l : Known g.Reported) → is_begun (Some l) ≡ false
      → (s : S) (name : List ℕ) (k : Known g.Reported) → is_begun (find_name name s.own) ≡ true → Entry s n l
      → Entry (with_known name k s) n l
  begun_beside n l f s name k e h = entered_beside s name n k l (λ o. is_begun o ≡ true) e (λ q. clash q f) h

  pub awaited_beside : (n : List ℕ) (l : Known g.Reported)
      → ((p : ModuleProcedure) → name_standing (Some l) ≡ Awaited p → ⊥)
      → (s : S) (name : List ℕ) (p : ModuleProcedure) (k : Known g.Reported)
      → name_standing (find_name name s.own) ≡ Awaited p → Entry s n l → Entry (with_known name k s) n l
  awaited_beside n l f s name p k e h = entered_beside s name n k l (λ o. name_standing o ≡ Awaited p) e (λ q. f p q) h

  -- ---- names that are begun together

  abbrev pub AllBegun : List Ident → S → Type 0
  AllBegun xs s = (x : Ident) → Among x xs → Entry s x.name Begun

  pub data Distinct : List Ident → Type 0 where
    no_name : Distinct []
    one_name : {x : Ident} {xs : List Ident} → ((y : Ident) → Among y xs → y.name ≡ x.name → ⊥) → Distinct xs
        → Distinct (x ∷ xs)

  begun_is : (s : S) (x : Ident) → (begin_name g s x).1 ≡ Ok tt → Entry (begin_name g s x).0 x.name Begun
      × (is_free (find_name x.name s.own) ≡ true)
  begun_is s x e = by_free (is_free (find_name x.name s.own)) refl e
    where
      by_free : (b : Bool) → is_free (find_name x.name s.own) ≡ b
          → (cond {A = State (Unit {0}) g.Reported} b (with_known x.name Begun s, Ok tt)
          (s, report g x.pos rule.DeclaredTwice)).1 ≡ Ok tt
          → Entry (cond {A = State (Unit {0}) g.Reported} b (with_known x.name Begun s, Ok tt)
          (s, report g x.pos rule.DeclaredTwice)).0 x.name Begun × (b ≡ true)
      by_free true q e = (entered_here s x.name Begun, refl)
      by_free false q e = absurd cc

  stays_begun : (x : Ident) (xs : List Ident) (st : State (Unit {0}) g.Reported) → Entry st.0 x.name Begun
      → Entry (fold (begun_name g) st xs).0 x.name Begun
  stays_begun x xs st h = begun_all g (λ s. Entry s x.name Begun)
      (λ s name k i e q. free_beside x.name Begun refl s name k e q) xs st h

  pub first_fine : (xs : List Ident) (st : State (Unit {0}) g.Reported) → (fold (begun_name g) st xs).1 ≡ Ok tt
      → st.1 ≡ Ok tt
  first_fine [] st e = e
  first_fine (x ∷ xs) st e = beside_first g _ _ (first_fine xs (begun_name g st x) e)

  apart : (x : Ident) (xs : List Ident) (st : State (Unit {0}) g.Reported) → Entry st.0 x.name Begun
      → (fold (begun_name g) st xs).1 ≡ Ok tt → (y : Ident) → Among y xs → y.name ≡ x.name → ⊥
  apart x [] st h e y m q = elim m [ ]
  apart x (z ∷ zs) st h e _ here q = let f =
      (begun_is st.0 z (beside_second g _ _ (first_fine zs (begun_name g st z) e))).1 in
      clash f (ap (λ (n : List ℕ). is_free (find_name n st.0.own)) q ∙ ap is_free h)
  apart x (z ∷ zs) st h e y (later m) q =
      apart x zs (begun_name g st z) (begun_stays g (λ s. Entry s x.name Begun)
      (λ s name k i e q. free_beside x.name Begun refl s name k e q) st.0 z h) e y m q

  begun_more : (x : Ident) (xs : List Ident) (s : S) → Entry s x.name Begun → AllBegun xs s → AllBegun (x ∷ xs) s
  begun_more x xs s h r _ here = h
  begun_more x xs s h r y (later m) = r y m

  pub all_begun : (xs : List Ident) (st : State (Unit {0}) g.Reported) → (fold (begun_name g) st xs).1 ≡ Ok tt
      → AllBegun xs (fold (begun_name g) st xs).0 × Distinct xs
  all_begun [] st e = ((λ x m. elim m [ ]), no_name)
  all_begun (x ∷ xs) st e =
      let r = all_begun xs (begun_name g st x) e in
      let h = (begun_is st.0 x (beside_second g _ _ (first_fine xs (begun_name g st x) e))).0 in (
        begun_more x xs (fold (begun_name g) (begun_name g st x) xs).0 (stays_begun x xs (begun_name g st x) h) r.0,
        one_name (apart x xs (begun_name g st x) h e) r.1,
      )

  -- ---- variables that are finished together

  -- what the variable with this number and this type is
  module _ (variable : ℕ → TypeNo → Meaning)
      (fixed : (n : ℕ) (u : TypeNo) → name_standing {T = g.Reported} (Some (Declared Here (Ok (variable n u)))) ≡ Taken)
    where
      abbrev pub Stood : ℕ → TypeNo → Known g.Reported
      Stood n u = Declared Here (Ok (variable n u))

      not_awaited : (n : ℕ) (u : TypeNo) (p : ModuleProcedure) → name_standing (Some (Stood n u)) ≡ Awaited p → ⊥
      not_awaited n u p e = let z = sym (fixed n u) ∙ e in absurd cc

      abbrev pub finish : TypeNo → S → Ident → S
      finish u s x = finish_name (with_variable_type s (Ok u)) x (Ok (variable (length s.variables) u))

      finished_is : (u : TypeNo) (s : S) (x : Ident) → Entry s x.name Begun
          → finish u s x ≡ with_known x.name (Stood (length s.variables) u) (with_variable_type s (Ok u))
      finished_is u s x h = ap (λ (b : Bool). cond b
          (with_known x.name (Stood (length s.variables) u) (with_variable_type s (Ok u)))
          (with_variable_type s (Ok u)))
          (ap is_begun h)

      -- these names, with numbers from this one on
      abbrev Numbered : ℕ → List Ident → S → Type 0
      Numbered n xs s = (i : ℕ) (x : Ident) → slice_get xs i ≡ Some x → (u : TypeNo) × Entry s x.name (Stood (n + i) u)
          × (slice_get s.variables (n + i) ≡ Some u)

      finish_stays : (u : TypeNo) (n : List ℕ) (k : Known g.Reported) → is_begun (Some k) ≡ false → (s : S) (x : Ident)
          → Entry s n k → Entry (finish u s x) n k
      finish_stays u n k f s x h = by_begun (is_begun (find_name x.name s.own)) refl
        where
          by_begun : (b : Bool) → is_begun (find_name x.name s.own) ≡ b
              → Entry (cond b (with_known x.name (Stood (length s.variables) u) (with_variable_type s (Ok u)))
              (with_variable_type s (Ok u))) n k
          by_begun true e = begun_beside n k f (with_variable_type s (Ok u)) x.name (Stood (length s.variables) u) e h
          by_begun false e = h

      all_stay : (u : TypeNo) (n : List ℕ) (k : Known g.Reported) → is_begun (Some k) ≡ false
          → (xs : List Ident) (s : S)
          → Entry s n k → Entry (fold (finish u) s xs) n k
      all_stay u n k f [] s h = h
      all_stay u n k f (x ∷ xs) s h = all_stay u n k f xs (finish u s x) (finish_stays u n k f s x h)

      one_grown : (u : TypeNo) (s : S) (x : Ident) → (finish u s x).variables ≡ s.variables ++ u ∷ []
      one_grown u s x = by_begun (is_begun (find_name x.name s.own))
        where
          by_begun : (b : Bool) → (cond b (with_known x.name (Stood (length s.variables) u)
              (with_variable_type s (Ok u)))
              (with_variable_type s (Ok u))).variables ≡ s.variables ++ u ∷ []
          by_begun true = refl
          by_begun false = refl

      -- types of variables that are there
      types_stay : (u : TypeNo) (xs : List Ident) (s : S) (i : ℕ) (t : TypeNo) → slice_get s.variables i ≡ Some t
          → slice_get (fold (finish u) s xs).variables i ≡ Some t
      types_stay u [] s i t e = e
      types_stay u (x ∷ xs) s i t e = types_stay u xs (finish u s x) i t
          (ap (λ (ts : List TypeNo). slice_get ts i) (one_grown u s x) ∙ get_left s.variables (u ∷ []) i t e)

      all_finished : (u : TypeNo) (xs : List Ident) (s : S) → AllBegun xs s → Distinct xs
          → Numbered (length s.variables) xs (fold (finish u) s xs)
          × (length (fold (finish u) s xs).variables ≡ length s.variables + length xs)
      all_finished u [] s h d = ((λ i x e. absurd cc), omega arith)
      all_finished u (x ∷ xs) s h (one_name away d) = by_rest (all_finished u xs (finish u s x) begun d)
        where
          entered : finish u s x ≡ with_known x.name (Stood (length s.variables) u) (with_variable_type s (Ok u))
          entered = finished_is u s x (h x here)

          begun : AllBegun xs (finish u s x)
          begun y m = subst (λ (t : S). Entry t y.name Begun) (sym entered)
              (entered_other (with_variable_type s (Ok u)) x.name y.name (Stood (length s.variables) u) Begun
              (λ q. away y m (sym q)) (h y (later m)))

          longer : length (finish u s x).variables ≡ length s.variables + 1
          longer = ap (λ (t : S). length t.variables) entered ∙ length-append s.variables (u ∷ [])

          stood : Entry (fold (finish u) (finish u s x) xs) x.name (Stood (length s.variables) u)
          stood = all_stay u x.name (Stood (length s.variables) u) refl xs (finish u s x)
              (subst (λ (t : S). Entry t x.name (Stood (length s.variables) u)) (sym entered)
              (entered_here (with_variable_type s (Ok u)) x.name (Stood (length s.variables) u)))

          typed : slice_get (fold (finish u) (finish u s x) xs).variables (length s.variables) ≡ Some u
          typed = types_stay u xs (finish u s x) (length s.variables) u
              (ap (λ (ts : List TypeNo). slice_get ts (length s.variables)) (one_grown u s x) ∙ get_last s.variables u)

          numbered : Numbered (length (finish u s x).variables) xs (fold (finish u) (finish u s x) xs)
              → Numbered (length s.variables) (x ∷ xs) (fold (finish u) (finish u s x) xs)
          numbered r zero z e =
              let q : length s.variables ≡ length s.variables + 0 = omega arith in (
                u,
                subst (λ (n : ℕ). Entry (fold (finish u) (finish u s x) xs) z.name (Stood n u)) q
                    (subst (λ (y : Ident). Entry (fold (finish u) (finish u s x) xs) y.name
                    (Stood (length s.variables) u)) (let q : x ≡ z = cc e in q) stood),
                subst (λ (n : ℕ). slice_get (fold (finish u) (finish u s x) xs).variables n ≡ Some u) q typed,
              )
          numbered r (suc k) z e =
              let q = r k z e in
              let w : length (finish u s x).variables + k ≡ length s.variables + suc k = omega (arith, longer) in (
                q.0,
                subst (λ (n : ℕ). Entry (fold (finish u) (finish u s x) xs) z.name (Stood n q.0)) w q.1,
                subst (λ (n : ℕ). slice_get (fold (finish u) (finish u s x) xs).variables n ≡ Some q.0) w q.2,
              )

          by_rest : Numbered (length (finish u s x).variables) xs (fold (finish u) (finish u s x) xs)
              × (length (fold (finish u) (finish u s x) xs).variables ≡ length (finish u s x).variables + length xs)
              → Numbered (length s.variables) (x ∷ xs) (fold (finish u) (finish u s x) xs)
              × (length (fold (finish u) (finish u s x) xs).variables ≡ length s.variables + length (x ∷ xs))
          by_rest r = (numbered r.0, omega (arith, r.1, longer))

      -- ---- what all declarations keep of them

      pub record IsCounted (base : ℕ) (vs : List Ident) (s : S) : Type 0 where
        pub counted : length s.variables ≡ base + length vs
        pub numbered : Numbered base vs s

      -- names that are entered under others
      counted_by : {base : ℕ} {vs : List Ident} {s : S} (name : List ℕ) (k : Known g.Reported)
          → ((n : List ℕ) (m : ℕ) (u : TypeNo) → Entry s n (Stood m u) → Entry (with_known name k s) n (Stood m u))
          → IsCounted base vs s → IsCounted base vs (with_known name k s)
      counted_by {base = base} name k h c = record {
        counted = c.counted;
        numbered = λ i x e. let r = c.numbered i x e in
            (r.0, h x.name (base + i) r.0 r.1, r.2);
      }

      abbrev pub Counted : ℕ → List Ident → S → Type 0
      Counted base vs = IsCounted base vs

      pub counted_free : (base : ℕ) (vs : List Ident) (s : S) (name : List ℕ) (k : Known g.Reported)
          → is_free (find_name name s.own) ≡ true → Counted base vs s → Counted base vs (with_known name k s)
      counted_free base vs s name k e c = counted_by name k (λ n m u h. free_beside n (Stood m u) refl s name k e h) c

      pub counted_begun : (base : ℕ) (vs : List Ident) (s : S) (name : List ℕ) (k : Known g.Reported)
          → is_begun (find_name name s.own) ≡ true → Counted base vs s → Counted base vs (with_known name k s)
      counted_begun base vs s name k e c = counted_by name k (λ n m u h. begun_beside n (Stood m u) refl s name k e h) c

      pub counted_awaited : (base : ℕ) (vs : List Ident) (s : S) (name : List ℕ) (p : ModuleProcedure)
          (k : Known g.Reported) → name_standing (find_name name s.own) ≡ Awaited p → Counted base vs s
          → Counted base vs (with_known name k s)
      counted_awaited base vs s name p k e c =
          counted_by name k (λ n m u h. awaited_beside n (Stood m u) (not_awaited m u) s name p k e h) c

      pub counted_shaped : (base : ℕ) (vs : List Ident) (s : S) (m : Made) → Counted base vs s
          → Counted base vs (with_shape s m)
      counted_shaped base vs s m c = record { counted = c.counted; numbered = c.numbered }

      pub counted_headed : (base : ℕ) (vs : List Ident) (s : S) (t : Result TypeNo g.Reported) → Counted base vs s
          → Counted base vs (with_procedure_type s t)
      counted_headed base vs s (Ok t) c = record { counted = c.counted; numbered = c.numbered }
      counted_headed base vs s (Err r) c = c

      -- ---- one list of variables more

      pub counted_more : (base : ℕ) (vs xs : List Ident) (u : TypeNo) (s : S) → Counted base vs s → AllBegun xs s
          → Distinct xs → Counted base (vs ++ xs) (fold (finish u) s xs)
      counted_more base vs xs u s c h d = record {
        counted = omega (arith, f.1, c.counted, length-append vs xs);
        numbered = numbered;
      }
        where
          f : Numbered (length s.variables) xs (fold (finish u) s xs)
              × (length (fold (finish u) s xs).variables ≡ length s.variables + length xs)
          f = all_finished u xs s h d

          by_place : {i : ℕ} {x : Ident} → ((slice_get vs i ≡ Some x)
              ⊎ ((k : ℕ) × (i ≡ length vs + k) × (slice_get xs k ≡ Some x))) → (v : TypeNo)
              × Entry (fold (finish u) s xs) x.name (Stood (base + i) v)
              × (slice_get (fold (finish u) s xs).variables (base + i) ≡ Some v)
          by_place {i = i} {x = x} (inl e) = let r = c.numbered i x e in
              (r.0, all_stay u x.name (Stood (base + i) r.0) refl xs s r.1, types_stay u xs s (base + i) r.0 r.2)
          by_place {i = i} {x = x} (inr (k, q, e)) =
              let r = f.0 k x e in
              let w : length s.variables + k ≡ base + i = omega (arith, c.counted, q) in (
                r.0,
                subst (λ (n : ℕ). Entry (fold (finish u) s xs) x.name (Stood n r.0)) w r.1,
                subst
                    (λ (n : ℕ). slice_get (fold (finish u) s xs).variables n ≡ Some r.0) w r.2,
              )

          numbered : Numbered base (vs ++ xs) (fold (finish u) s xs)
          numbered i x e = by_place (split_place vs xs i x e)

      module _ (key : S → ℕ) (key_known : (s : S) (n : List ℕ) (k : Known g.Reported) → key (with_known n k s) ≡ key s)
          (key_varied : (s : S) (u : TypeNo) → key (with_variable_type s (Ok u)) ≡ key s) where
        key_finished : (u : TypeNo) (s : S) (x : Ident) (m : Result Meaning g.Reported)
            → key (finish_name (with_variable_type s (Ok u)) x m) ≡ key s
        key_finished u s x m = by_begun (is_begun (find_name x.name s.own))
          where
            by_begun : (b : Bool) → key (cond b (with_known x.name (Declared Here m) (with_variable_type s (Ok u)))
                (with_variable_type s (Ok u))) ≡ key s
            by_begun true = key_known (with_variable_type s (Ok u)) x.name (Declared Here m) ∙ key_varied s u
            by_begun false = key_varied s u

        pub keys_stay : (u : TypeNo) (xs : List Ident) (s : S) → key (fold (finish u) s xs) ≡ key s
        keys_stay u [] s = refl
        keys_stay u (x ∷ xs) s = keys_stay u xs (finish u s x)
            ∙ key_finished u s x (Ok (variable (length s.variables) u))

        module _ (made : ℕ → ℕ → TypeNo → Meaning) (K : ℕ) (is_made : (n : ℕ) (u : TypeNo) → made K n u ≡ variable n u)
          where
            abbrev pub finish_by : TypeNo → S → Ident → S
            finish_by u s x = finish_name (with_variable_type s (Ok u)) x (Ok (made (key s) (length s.variables) u))

            one_same : (u : TypeNo) (s : S) (x : Ident) → key s ≡ K → finish_by u s x ≡ finish u s x
            one_same u s x e = ap (λ (m : Meaning). finish_name (with_variable_type s (Ok u)) x (Ok m))
                (ap (λ (k : ℕ). made k (length s.variables) u) e ∙ is_made (length s.variables) u)

            pub fold_same : (u : TypeNo) (xs : List Ident) (s : S) → key s ≡ K
                → fold (finish_by u) s xs ≡ fold (finish u) s xs
            fold_same u [] s e = refl
            fold_same u (x ∷ xs) s e = fold_same u xs (finish_by u s x)
                (key_finished u s x (Ok (made (key s) (length s.variables) u)) ∙ e)
                ∙ ap (λ (t : S). fold (finish u) t xs) (one_same u s x e)
