-- Exported procedures stand in the order of their numbers.
use Rattle.std.proofs.Common.{◌≡◌, ℕ, zero, suc, ◌+◌, Bool, true, false, ◌||◌, cond, List, [], ◌∷◌, ◌++◌, length, Option, Some, None, Ok, Err, refl, sym, ap, subst, ◌∙◌, arith}
use Rattle.std.specs.Prelude.{slice_get}
use Rattle.std.specs.List.{fold, AllByRecursion}
use Rattle.std.proofs.lemmas.List.{length-append}
use Rattle.std.proofs.lemmas.List.Sums.{fold-append}
use Rattle.typed_tree.specs.declared.meaning.Meaning.{Meaning}
use Rattle.typed_tree.specs.declared.meaning.Meaning.TheVariants as meaning
use Rattle.typed_tree.specs.declared.meaning.Procedure.{Procedure}
use Rattle.typed_tree.specs.declared.types.TypeNo.{TypeNo}
use Rattle.m2_tree.specs.Names.{same_name}
use Rattle.typed_tree.specs.Names.{enter_name}
use Rattle.check_scope.specs.declared.known.Origin.TheVariants.{Here, Module, Export}
use Rattle.check_scope.specs.declared.known.Known.{Known}
use Rattle.check_scope.specs.declared.known.Known.TheVariants.{Later, Ahead, Begun, Headed, Declared}
use Rattle.check_definition.specs.Export.{with_known, with_export, exports}
use Rattle.check_body.specs.Own.{with_heading_of, with_exported_heading, exported_headings}
use Rattle.law_well_formed.proofs.ImportsLists.{each_push}
use Rattle.law_well_formed.specs.FormedTables.{IsNumbered, AreNumberedBy}
use Rattle.law_well_formed.proofs.Order.{other_way, has, still_apart, keys, keys_entered, Distinct, number_in, number_of, is_taken, OrderBy, NoneDone, Order, order_none}

-- ---- places

more_at : {A : Type 0} (xs ys : List A) (n : ℕ) (x : A) → slice_get xs n ≡ Some x → slice_get (xs ++ ys) n ≡ Some x
more_at [] ys n x e = absurd cc
more_at (y ∷ xs) ys zero x e = e
more_at (y ∷ xs) ys (suc n) x e = more_at xs ys n x e

last_at : {A : Type 0} (xs : List A) (y : A) → slice_get (xs ++ y ∷ []) (length xs) ≡ Some y
last_at [] y = refl
last_at (x ∷ xs) y = last_at xs y

numbered_more : (hs ys : List TypeNo) (x : Meaning) → IsNumbered hs x → IsNumbered (hs ++ ys) x
numbered_more hs ys (meaning.Procedure p) e = more_at hs ys p.number p.heading e
numbered_more hs ys (meaning.Constant v) e = tt
numbered_more hs ys (meaning.Type t n) e = tt
numbered_more hs ys (meaning.Variable v) e = tt
numbered_more hs ys (meaning.Local v) e = tt
numbered_more hs ys (meaning.Field f) e = tt
numbered_more hs ys (meaning.LocalProcedure p) e = tt
numbered_more hs ys meaning.Ahead e = tt
numbered_more hs ys (meaning.Standard f) e = tt
numbered_more hs ys (meaning.Module k) e = tt

all_more : (hs ys : List TypeNo) (es : List (List ℕ × Meaning)) → AreNumberedBy hs es → AreNumberedBy (hs ++ ys) es
all_more hs ys [] k = tt
all_more hs ys (e ∷ es) k = (numbered_more hs ys e.1 k.0, all_more hs ys es k.1)

-- ---- a new name goes to the end

or_none : (a b : Bool) → (a || b) ≡ false → (a ≡ false) × (b ≡ false)
or_none true b h = absurd cc
or_none false b h = (refl, h)

new_by : {A : Type 0} (b : Bool) (xs ys zs : List A) → b ≡ false → ys ≡ zs → cond b xs ys ≡ zs
new_by true xs ys zs e k = absurd cc
new_by false xs ys zs e k = k

entered_new : {V : Type 0} (name : List ℕ) (v : V) (es : List (List ℕ × V)) → has name (keys es) ≡ false
    → enter_name name v es ≡ es ++ (name, v) ∷ []
entered_new name v [] h = refl
entered_new name v (e ∷ es) h =
    let k = or_none (same_name name e.0) (has name (keys es)) h in
    new_by (same_name name e.0) ((e.0, v) ∷ es) (e ∷ enter_name name v es) (e ∷ (es ++ (name, v) ∷ [])) k.0
    (ap (λ xs. e ∷ xs) (entered_new name v es k.1))

-- ---- so many procedures are exported so far, and have their numbers

abbrev IsSo : List (List ℕ × Meaning) → ℕ → Type 0
IsSo so n = (length (exported_headings so) ≡ n) × AreNumberedBy (exported_headings so) so

headings_more : (so : List (List ℕ × Meaning)) (e : List ℕ × Meaning)
    → exported_headings (so ++ e ∷ []) ≡ with_heading_of (exported_headings so) e.1
headings_more so e = fold-append with_exported_heading [] so (e ∷ [])

procedure_so : (so : List (List ℕ × Meaning)) (name : List ℕ) (p : Procedure) (n : ℕ) → p.number ≡ n → IsSo so n
    → IsSo (so ++ (name, meaning.Procedure p) ∷ []) (suc n)
procedure_so so name p n e k =
    let hs : List TypeNo = exported_headings so in
    let new : exported_headings (so ++ (name, meaning.Procedure p) ∷ []) ≡ hs ++ p.heading ∷ [] =
    headings_more so (name, meaning.Procedure p) in
    let count : length (hs ++ p.heading ∷ []) ≡ length hs + 1 = length-append hs (p.heading ∷ []) in
    let l : length hs ≡ n = k.0 in (
      ap (λ (xs : List TypeNo). length xs) new ∙ count ∙ omega (arith, l),
      subst (λ (xs : List TypeNo). AreNumberedBy xs (so ++ (name, meaning.Procedure p) ∷ [])) (sym new)
          (each_push (λ (e : List ℕ × Meaning). IsNumbered (hs ++ p.heading ∷ []) e.1) so (name, meaning.Procedure p)
          (all_more hs (p.heading ∷ []) so k.1)
          (subst (λ (i : ℕ). slice_get (hs ++ p.heading ∷ []) i ≡ Some p.heading) (l ∙ sym e) (last_at hs p.heading))),
    )

other_so : (so : List (List ℕ × Meaning)) (name : List ℕ) (x : Meaning) (n : ℕ)
    → with_heading_of (exported_headings so) x ≡ exported_headings so → IsNumbered (exported_headings so) x → IsSo so n
    → IsSo (so ++ (name, x) ∷ []) n
other_so so name x n e i k =
    let new : exported_headings (so ++ (name, x) ∷ []) ≡ exported_headings so = headings_more so (name, x) ∙ e in (
      ap (λ (xs : List TypeNo). length xs) new ∙ k.0,
      subst (λ (xs : List TypeNo). AreNumberedBy xs (so ++ (name, x) ∷ [])) (sym new)
          (each_push (λ (e : List ℕ × Meaning). IsNumbered (exported_headings so) e.1) so (name, x) k.1 i),
    )

-- behind an entry that has this number, or none
abbrev After : List (List ℕ × Meaning) → Option ℕ → ℕ → Type 0
After so None n = IsSo so n
After so (Some j) n = j ≡ n → IsSo so (suc n)

meaning_after : (so : List (List ℕ × Meaning)) (name : List ℕ) (x : Meaning) (n : ℕ) → IsSo so n
    → After (so ++ (name, x) ∷ []) (number_in x) n
meaning_after so name (meaning.Procedure p) n k = λ e. procedure_so so name p n e k
meaning_after so name (meaning.Constant v) n k = other_so so name (meaning.Constant v) n refl tt k
meaning_after so name (meaning.Type t i) n k = other_so so name (meaning.Type t i) n refl tt k
meaning_after so name (meaning.Variable v) n k = other_so so name (meaning.Variable v) n refl tt k
meaning_after so name (meaning.Local v) n k = other_so so name (meaning.Local v) n refl tt k
meaning_after so name (meaning.Field f) n k = other_so so name (meaning.Field f) n refl tt k
meaning_after so name (meaning.LocalProcedure p) n k = other_so so name (meaning.LocalProcedure p) n refl tt k
meaning_after so name meaning.Ahead n k = other_so so name meaning.Ahead n refl tt k
meaning_after so name (meaning.Standard f) n k = other_so so name (meaning.Standard f) n refl tt k
meaning_after so name (meaning.Module i) n k = other_so so name (meaning.Module i) n refl tt k

new_after : (so : List (List ℕ × Meaning)) (name : List ℕ) (x : Meaning) (n : ℕ) → has name (keys so) ≡ false
    → IsSo so n → After (enter_name name x so) (number_in x) n
new_after so name x n h k = subst (λ (es : List (List ℕ × Meaning)). After es (number_in x) n)
    (sym (entered_new name x so h)) (meaning_after so name x n k)

entered_apart : (so : List (List ℕ × Meaning)) (name : List ℕ) (m : Meaning) (x : List ℕ) → has x (keys so) ≡ false
    → same_name x name ≡ false → has x (keys (enter_name name m so)) ≡ false
entered_apart so name m x h e = ap (λ (ks : List (List ℕ)). has x ks) (keys_entered name m so)
    ∙ still_apart x name (has name (keys so)) (keys so) h e

module _ {T : Type 0} where
  known_after : (so : List (List ℕ × Meaning)) (name : List ℕ) (k : Known T) (n : ℕ) → has name (keys so) ≡ false
      → IsSo so n → After (with_known so name k) (number_of k) n
  known_after so name Later n h i = i
  known_after so name Ahead n h i = i
  known_after so name Begun n h i = i
  known_after so name (Headed (Ok x)) n h i = new_after so name x n h i
  known_after so name (Headed (Err e)) n h i = i
  known_after so name (Declared Here (Ok x)) n h i = new_after so name x n h i
  known_after so name (Declared Here (Err e)) n h i = i
  known_after so name (Declared (Module j) r) n h i = i
  known_after so name (Declared (Export j) r) n h i = i

  known_apart : (so : List (List ℕ × Meaning)) (name : List ℕ) (k : Known T) (x : List ℕ) → has x (keys so) ≡ false
      → same_name x name ≡ false → has x (keys (with_known so name k)) ≡ false
  known_apart so name Later x h e = h
  known_apart so name Ahead x h e = h
  known_apart so name Begun x h e = h
  known_apart so name (Headed (Ok m)) x h e = entered_apart so name m x h e
  known_apart so name (Headed (Err f)) x h e = h
  known_apart so name (Declared Here (Ok m)) x h e = entered_apart so name m x h e
  known_apart so name (Declared Here (Err f)) x h e = h
  known_apart so name (Declared (Module j) r) x h e = h
  known_apart so name (Declared (Export j) r) x h e = h

  abbrev Apart : List (List ℕ × Meaning) → List (List ℕ × Known T) → Type 0
  Apart so es = AllByRecursion (λ e. has e.0 (keys so) ≡ false) es

  apart_more : (so : List (List ℕ × Meaning)) (e : List ℕ × Known T) (es : List (List ℕ × Known T))
      → has e.0 (keys es) ≡ false → Apart so es → Apart (with_export so e) es
  apart_more so e [] h k = tt
  apart_more so e (x ∷ es) h k =
      let d = or_none (same_name e.0 x.0) (has e.0 (keys es)) h in
      (known_apart so e.0 e.1 x.0 k.0 (other_way e.0 x.0 d.0), apart_more so e es d.1 k.1)

  order_by : (o : Option ℕ) (t : Bool) (n c : ℕ) (so : List (List ℕ × Meaning)) (es : List (List ℕ × Known T))
      (all : List (List ℕ × Meaning)) → After so o n → OrderBy o t n c (Order n c es) (Order (suc n) c es) (NoneDone es)
      → ((i : ℕ) → Order i c es → IsSo so i → IsSo all c) → IsSo all c
  order_by (Some k) t n c so es all a p f = f (suc n) p.1 (a p.0)
  order_by None true n c so es all a p f = f n p a
  order_by None false n c so es all a p f = f n (order_none n c es p.1 p.0) a

  in_order : (es : List (List ℕ × Known T)) (so : List (List ℕ × Meaning)) (n c : ℕ) → Distinct es → Apart so es
      → Order n c es → IsSo so n → IsSo (fold with_export so es) c
  in_order [] so n c d a p k = subst (λ (i : ℕ). IsSo so i) p k
  in_order (e ∷ es) so n c d a p k =
      order_by (number_of e.1) (is_taken e.1) n c (with_export so e) es (fold with_export (with_export so e) es)
      (known_after so e.0 e.1 n a.0 k) p
      (λ i q s. in_order es (with_export so e) i c d.1 (apart_more so e es d.0 a.1) q s)

  none_before : (es : List (List ℕ × Known T)) → Apart [] es
  none_before [] = tt
  none_before (e ∷ es) = (refl, none_before es)

  pub exports_numbered : (own : List (List ℕ × Known T)) (c : ℕ) → Distinct own → Order 0 c own
      → AreNumberedBy (exported_headings (exports own)) (exports own)
  exports_numbered own c d p = (in_order own [] 0 c d (none_before own) p (refl, tt)).1
