-- What is exported are the names that are declared, in the order of the scope.
use Rattle.std.proofs.Common.{◌≡◌, ℕ, Bool, cond, List, [], ◌∷◌, ◌++◌, Option, Some, None, Ok, Err, refl, sym, ap, subst, ◌∙◌}
use Rattle.std.specs.Prelude.{map}
use Rattle.std.specs.List.{fold}
use Rattle.m2_tree.specs.declared.name.Ident.{Ident}
use Rattle.typed_tree.specs.declared.meaning.Meaning.{Meaning}
use Rattle.typed_tree.specs.Names.{find_name}
use Rattle.check_scope.specs.declared.known.Known.{Known}
use Rattle.check_scope.specs.declared.known.Known.TheVariants as known
use Rattle.check_scope.specs.declared.known.Origin.TheVariants.{Here, Module, Export}
use Rattle.check_definition.specs.Export.{with_known, with_export, exports}
use Rattle.def_typing.specs.Parts.{Among, here, later}
use Rattle.def_typing.specs.Imports.{Entry}
use Rattle.law_typing.specs.Exact.{AreOnce, no_names, one_name}
use Rattle.law_typing.proofs.Heading.{nil_right, append_assoc}
use Rattle.law_typing.proofs.Combining.{Decided, holds, fails_it}
use Rattle.law_typing.proofs.Entering.{name_decided}
use Rattle.law_rules.proofs.Keys.{keys, entered_last, entered_other, there_found, once_found}

-- It is declared here, and means this.
pub data IsDeclared {T : Type 0} (m : Meaning) : Option (Known T) → Type 0 where
  by_declaration : IsDeclared m (Some (known.Declared Here (Ok m)))
  by_heading : IsDeclared m (Some (known.Headed (Ok m)))

-- the names that are declared here, with what they mean
pub data Found {T : Type 0} (own : List (List ℕ × Known T)) : List Ident → List Entry → Type 0 where
  no_more : Found own [] []
  one_more : {x : Ident} {xs : List Ident} {m : Meaning} {es : List Entry}
      → IsDeclared m (find_name x.name own) → Found own xs es → Found own (x ∷ xs) ((x.name, m) ∷ es)

one_meaning : {a b : Meaning} → ◌≡◌ {A = Option Meaning} (Some a) (Some b) → a ≡ b
one_meaning q = cc

module _ {T : Type 0} where
  named_by : (own : List (List ℕ × Known T)) (n : List ℕ) (m : Meaning) (x : Ident) (w : Meaning) (o : Option Meaning)
      {b : Bool} → Decided (n ≡ x.name) b → IsDeclared w (find_name x.name own)
      → (o ≡ Some m → IsDeclared m (find_name n own)) → cond b (Some w) o ≡ Some m
      → IsDeclared m (find_name n own)
  named_by own n m x w o (holds q) e h z =
      subst (λ (k : List ℕ). IsDeclared m (find_name k own)) (sym q)
      (subst (λ (w : Meaning). IsDeclared w (find_name x.name own)) (one_meaning z) e)
  named_by own n m x w o (fails_it c) e h z = h z

  -- What is listed is declared.
  pub found_named : {own : List (List ℕ × Known T)} {xs : List Ident} {es : List Entry} → Found own xs es
      → (n : List ℕ) (m : Meaning) → find_name n es ≡ Some m → IsDeclared m (find_name n own)
  found_named no_more n m z = absurd cc
  found_named {own = own} (one_more {x = x} {m = w} {es = es} e f) n m z =
      named_by own n m x w (find_name n es) (name_decided n x.name) e (λ q. found_named f n m q) z

  -- what one name exports
  abbrev pub entry_of : List ℕ → Known T → List Entry
  entry_of n (known.Declared Here (Ok m)) = (n, m) ∷ []
  entry_of n (known.Headed (Ok m)) = (n, m) ∷ []
  entry_of n other = []

  abbrev entries : List (List ℕ × Known T) → List Entry
  entries [] = []
  entries (e ∷ es) = entry_of e.0 e.1 ++ entries es

  known_entered : (so : List Entry) (n : List ℕ) (k : Known T) → find_name n so ≡ None
      → with_known so n k ≡ so ++ entry_of n k
  known_entered so n known.Later h = sym (nil_right so)
  known_entered so n known.Ahead h = sym (nil_right so)
  known_entered so n known.Begun h = sym (nil_right so)
  known_entered so n (known.Headed (Ok m)) h = entered_last n m so h
  known_entered so n (known.Headed (Err e)) h = sym (nil_right so)
  known_entered so n (known.Declared Here (Ok m)) h = entered_last n m so h
  known_entered so n (known.Declared Here (Err e)) h = sym (nil_right so)
  known_entered so n (known.Declared (Module k) m) h = sym (nil_right so)
  known_entered so n (known.Declared (Export k) m) h = sym (nil_right so)

  -- another name is not there behind it
  still_none : (so : List Entry) (n o : List ℕ) (k : Known T) → find_name n so ≡ None → (o ≡ n → ⊥)
      → find_name n (with_known so o k) ≡ None
  still_none so n o known.Later h c = h
  still_none so n o known.Ahead h c = h
  still_none so n o known.Begun h c = h
  still_none so n o (known.Headed (Ok m)) h c = entered_other o n m so c ∙ h
  still_none so n o (known.Headed (Err e)) h c = h
  still_none so n o (known.Declared Here (Ok m)) h c = entered_other o n m so c ∙ h
  still_none so n o (known.Declared Here (Err e)) h c = h
  still_none so n o (known.Declared (Module k) m) h c = h
  still_none so n o (known.Declared (Export k) m) h c = h

  exports_from : {own : List (List ℕ × Known T)} → AreOnce own → (so : List Entry)
      → ((e : List ℕ × Known T) → Among e own → find_name e.0 so ≡ None) → fold with_export so own ≡ so ++ entries own
  exports_from no_names so h = sym (nil_right so)
  exports_from (one_name {e = e} {es = es} n o) so h =
      exports_from o (with_export so e) (λ f m. still_none so f.0 e.0 e.1 (h f (later m))
      (λ q. there_found f es m (subst (λ (k : List ℕ). find_name k es ≡ None) q n)))
      ∙ ap (λ (fs : List Entry). fs ++ entries es) (known_entered so e.0 e.1 (h e here))
      ∙ append_assoc so (entry_of e.0 e.1) (entries es)

  exports_are : {own : List (List ℕ × Known T)} → AreOnce own → exports own ≡ entries own
  exports_are o = exports_from o [] (λ e m. refl)

  -- ---- those that come first, and no other

  key_among : {e : List ℕ × Known T} {es : List (List ℕ × Known T)} → Among e es → Among e.0 (keys es)
  key_among here = here
  key_among (later m) = later (key_among m)

  module _ (own : List (List ℕ × Known T)) where
    -- what is found is what stands there
    abbrev AsFound : List (List ℕ × Known T) → Type 0
    AsFound es = (e : List ℕ × Known T) → Among e es → find_name e.0 own ≡ Some e.1

    foreign_entries : (es : List (List ℕ × Known T)) → ((e : List ℕ × Known T) → Among e es → entry_of e.0 e.1 ≡ [])
        → entries es ≡ []
    foreign_entries [] h = refl
    foreign_entries (e ∷ es) h = ap (λ (fs : List Entry). fs ++ entries es) (h e here)
        ∙ foreign_entries es (λ f m. h f (later m))

    entry_is : (n : List ℕ) {m : Meaning} {k : Known T} → IsDeclared m (Some k) → entry_of n k ≡ (n, m) ∷ []
    entry_is n by_declaration = refl
    entry_is n by_heading = refl

    -- names that come first are exported, and no other is
    found_entries : {xs : List Ident} {fs : List Entry} (es : List (List ℕ × Known T)) (rest : List (List ℕ))
        → Found own xs fs → AsFound es → keys es ≡ map (λ (x : Ident). x.name) xs ++ rest
        → ((e : List ℕ × Known T) → Among e es → (n : List ℕ) → Among n rest → e.0 ≡ n → entry_of e.0 e.1 ≡ [])
        → entries es ≡ fs
    found_entries es rest no_more a q c = foreign_entries es
        (λ e m. c e m e.0 (subst (λ (ks : List (List ℕ)). Among e.0 ks) q (key_among m)) refl)
    found_entries [] rest (one_more w f) a q c = absurd cc
    found_entries (e ∷ es) rest (one_more {x = x} {xs = xs} {m = m} {es = fs} w f) a q c =
        ap (λ (gs : List Entry). gs ++ entries es) first
        ∙ ap (λ (gs : List Entry). (x.name, m) ∷ gs)
        (found_entries es rest f (λ d n. a d (later n)) tail (λ d n. c d (later n)))
      where
        head : e.0 ≡ x.name
        head = cc

        tail : keys es ≡ map (λ (x : Ident). x.name) xs ++ rest
        tail = cc

        known_so : IsDeclared m (Some e.1)
        known_so = subst (λ (k : Option (Known T)). IsDeclared m k) (a e here)
            (subst (λ (n : List ℕ). IsDeclared m (find_name n own)) (sym head) w)

        first : entry_of e.0 e.1 ≡ (x.name, m) ∷ []
        first = entry_is e.0 known_so ∙ ap (λ (n : List ℕ). let y : List Entry = (n, m) ∷ [] in y) head

    -- so it is behind names of others
    found_behind : {xs : List Ident} {fs : List Entry} (es : List (List ℕ × Known T)) (front rest : List (List ℕ))
        → Found own xs fs → AsFound es → keys es ≡ front ++ (map (λ (x : Ident). x.name) xs ++ rest)
        → ((e : List ℕ × Known T) → Among e es → Among e.0 front → entry_of e.0 e.1 ≡ [])
        → ((e : List ℕ × Known T) → Among e es → (n : List ℕ) → Among n rest → e.0 ≡ n → entry_of e.0 e.1 ≡ [])
        → entries es ≡ fs
    found_behind es [] rest f a q b c = found_entries es rest f a q c
    found_behind [] (k ∷ front) rest f a q b c = absurd cc
    found_behind (e ∷ es) (k ∷ front) rest f a q b c = let head : e.0 ≡ k = cc in
        let tail : keys es ≡ front ++ (map (λ (x : Ident). x.name) _ ++ rest) = cc in
        ap (λ (gs : List Entry). gs ++ entries es) (b e here (subst (λ (n : List ℕ). Among n (k ∷ front)) (sym head)
        here))
        ∙ found_behind es front rest f (λ d n. a d (later n)) tail (λ d n w. b d (later n) (later w))
        (λ d n. c d (later n))

  pub exported_are : {own : List (List ℕ × Known T)} {xs : List Ident} {fs : List Entry} → AreOnce own
      → (front rest : List (List ℕ)) → Found own xs fs
      → keys own ≡ front ++ (map (λ (x : Ident). x.name) xs ++ rest)
      → ((e : List ℕ × Known T) → Among e own → Among e.0 front → entry_of e.0 e.1 ≡ [])
      → ((e : List ℕ × Known T) → Among e own → Among e.0 rest → entry_of e.0 e.1 ≡ []) → exports own ≡ fs
  exported_are {own = own} o front rest f q b c = exports_are o ∙ found_behind own own front rest f (once_found o) q b
      (λ e m n w h. c e m (subst (λ (k : List ℕ). Among k rest) (sym h) w))
