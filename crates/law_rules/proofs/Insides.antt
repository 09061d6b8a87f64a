-- What is known of each scope in which an expression of a block is read again.
use Rattle.std.proofs.Common.{◌≡◌, ℕ, ◌<◌, ◌≤◌, Bool, true, false, List, [], ◌∷◌, length, Option, Some, None, inl, inr, refl, sym, subst, ◌∙◌, arith}
use Rattle.std.specs.Prelude.{nat_lt}
use Rattle.std.proofs.lemmas.Bool.Decides.{nat_tests}
use Rattle.m2_tree.specs.declared.name.Ident.{Ident}
use Rattle.typed_tree.specs.declared.types.TypeNo.{TypeNo}
use Rattle.typed_tree.specs.Names.{find_name, place_of}
use Rattle.check_scope.specs.declared.known.Known.{Known}
use Rattle.check_scope.specs.declared.scope.Scope.{Scope}
use Rattle.check_scope.specs.Elaborated.{Gathers}
use Rattle.def_typing.specs.Things as things
use Rattle.def_typing.specs.Things.{Standing}
use Rattle.def_typing.specs.Parts.{here, later, Named}
use Rattle.def_typing.specs.Declarations.{Declaration, AnyDeclares, is_among}
use Rattle.law_typing.specs.Judging.{Judges}
use Rattle.law_typing.specs.Exact.{Knows, TakenAs, is_taken, awaits, is_a_heading, not_taken}
use Rattle.law_typing.specs.Again.{IsBefore, StandInTurn, StandInFront, KnowsInside, ReadsAgain}
use Rattle.law_typing.proofs.Combining.{Decided, holds, fails_it, decided_as}
use Rattle.law_typing.proofs.Entering.{named_split, among_decided}
use Rattle.law_typing.proofs.Naming.{index, index_less, place_found, place_none}
use Rattle.law_rules.proofs.Listing.{all_names, names_all, any_named_all}
use Rattle.law_rules.proofs.BodiesKeeping.{Grows, Fits}
use Rattle.law_rules.proofs.Seeing.{PlaceIs, nowhere, stands_in_front, stands_behind, seen_there, seen_knows, seen_repeats}
use Rattle.law_rules.proofs.Turns.{same_names}

named_declares : (ds : List Declaration) {n : List ℕ} → Named (names_all ds) n → AnyDeclares ds n
named_declares [] h = elim h.1 [ ]
named_declares (d ∷ ds) h = elim (named_split (all_names d) h)
    [ inl y ↦ (d, here, y) | inr y ↦ let a = named_declares ds y in (a.0, later a.1, a.2) ]

declares_decided : (ds : List Declaration) (n : List ℕ) → Decided (AnyDeclares ds n) (is_among n (names_all ds))
declares_decided ds n = decided_as (λ h. named_declares ds h) (λ a. any_named_all ds a)
    (among_decided (names_all ds) n)

module _ {V : Type 0} (own : List (List ℕ × V)) (n : List ℕ) where
  same_place : {a b : ℕ} → ◌≡◌ {A = Option ℕ} (Some a) (Some b) → a ≡ b
  same_place e = cc

  none_some : {A : Type 0} {a : A} → ◌≡◌ {A = Option A} None (Some a) → ⊥
  none_some e = absurd cc

  -- a name that stands at a place is there
  pub place_is : (k : Option V) → find_name n own ≡ k → (p : ℕ) → place_of n own ≡ Some p
      → (v : V) × (k ≡ Some v) × (index n own ≡ p)
  place_is None e p q = absurd (none_some (sym (place_none n own e) ∙ q))
  place_is (Some v) e p q = (v, refl, same_place (sym (place_found n own v e) ∙ q))

-- ---- names that are taken

module _ (g : Gathers) (j : Judges g) where
  taken_is : {b : Bool} {u : Option TypeNo} {o : Option (Known g.Reported)} → TakenAs g j b u o → b ≡ true → o ≡ None
      → ⊥
  taken_is (is_taken s) e q = absurd cc
  taken_is (awaits p) e q = absurd cc
  taken_is is_a_heading e q = absurd cc
  taken_is not_taken e q = absurd cc

  pub untaken_is : {b : Bool} {u : Option TypeNo} {o : Option (Known g.Reported)} → TakenAs g j b u o → b ≡ false
      → o ≡ None
  untaken_is (is_taken s) e = absurd cc
  untaken_is (awaits p) e = absurd cc
  untaken_is is_a_heading e = absurd cc
  untaken_is not_taken e = refl

-- ---- start: the scope in which the block begins; w: the one behind its declarations

module _ (g : Gathers) (j : Judges g) (exports : ℕ → Ident → Standing) (names : Ident → Standing)
    (start w : Scope g.Reported) (taken : List ℕ → Bool) (awaited : List ℕ → Option TypeNo)
    (takes : (n : List ℕ) → TakenAs g j (taken n) (awaited n) (find_name n start.own)) (block : List Declaration)
    (level : ℕ) (grows : Grows start.own w.own)
    (there : (n : List ℕ) → taken n ≡ false → AnyDeclares block n → find_name n w.own ≡ None → ⊥)
    (others : (n : List ℕ) → (AnyDeclares block n → ⊥) → find_name n start.own ≡ None → find_name n w.own ≡ None)
    (fits : (n : List ℕ) (k : Known g.Reported) → find_name n w.own ≡ Some k → taken n ≡ false → Fits level k)
    (knows : Knows g j names exports w) (no_withs : w.withs ≡ [])
    (never_ahead : (name : Ident) → taken name.name ≡ false → AnyDeclares block name.name
    → names name ≡ things.Ahead → ⊥) where
  none_some_known : {o : Option (Known g.Reported)} {k : Known g.Reported} → o ≡ None → o ≡ Some k → ⊥
  none_some_known e q = let z = sym e ∙ q in absurd cc

  untaken_none : (n : List ℕ) → taken n ≡ false → find_name n start.own ≡ None
  untaken_none n t = untaken_is g j (takes n) t

  no_both : {b : Bool} → b ≡ true → b ≡ false → ⊥
  no_both e q = let z = sym e ∙ q in absurd cc

  pub none_before : (n : List ℕ) → taken n ≡ false → AnyDeclares block n → IsBefore w.own (length start.own) n → ⊥
  none_before n t a b = let q = place_is w.own n (find_name n w.own) refl b.0 b.1 in
      far (grows.new n q.0 (untaken_none n t) q.1) q.2 b.2
    where
      far : {l i p : ℕ} → l ≤ i → i ≡ p → p < l → ⊥
      far l e u = absurd (omega (arith, l, e, u))

  -- ---- inside

  module _ (front : List Ident) (seen : ℕ) (stand : StandInFront w.own (length start.own) taken block front seen)
    where
      abbrev Place : List ℕ → Option (Known g.Reported) → Type 0
      Place = PlaceIs g j taken block (Named front) level w seen

      lower : {a b c : ℕ} → a < b → b ≤ c → nat_lt a c ≡ true
      lower l u = grind (arith, nat_tests)

      less : {a b : ℕ} → nat_lt a b ≡ true → a < b
      less e = grind (arith, nat_tests)

      module _ (n : List ℕ) (k : Known g.Reported) (e : find_name n w.own ≡ Some k) where
        -- a name of the start
        of_start : (v : Known g.Reported) → find_name n start.own ≡ Some v → Place n (Some k)
        of_start v q = stands_in_front k (λ t a. absurd (none_some_known (untaken_none n t) q))
            (subst (λ (i : ℕ). nat_lt i seen ≡ true) (sym (grows.kept n v q).2)
            (lower (index_less n start.own v q) stand.not_less))

        abbrev Stands : Type 0
        Stands = place_of n w.own ≡ Some (index n w.own)

        stands : Stands
        stands = place_found n w.own k e

        of_block : taken n ≡ false → AnyDeclares block n → (b : Bool) → nat_lt (index n w.own) seen ≡ b
            → Place n (Some k)
        of_block t a true q =
            stands_in_front k (λ u d. (stand.are_these n t a).1 (index n w.own, stands, less q)) q
        of_block t a false q = stands_behind k t a (λ h. let b = (stand.are_these n t a).0 h in
            let p = place_is w.own n (find_name n w.own) refl b.0 b.1 in
            no_both (is_lower p.2 b.2) q) q (fits n k e t)
          where
            is_lower : {i p c : ℕ} → i ≡ p → p < c → nat_lt i c ≡ true
            is_lower e l = grind (arith, nat_tests)

        untaken : (b : Bool) → taken n ≡ b → find_name n start.own ≡ None → taken n ≡ false
        untaken true t q = absurd (taken_is g j (takes n) t q)
        untaken false t q = t

        of_new : {b : Bool} → find_name n start.own ≡ None → Decided (AnyDeclares block n) b → Place n (Some k)
        of_new q (holds a) = of_block (untaken (taken n) refl q) a (nat_lt (index n w.own) seen) refl
        of_new q (fails_it c) = absurd (none_some_known (others n c q) e)

        found_by : (o : Option (Known g.Reported)) → find_name n start.own ≡ o → Place n (Some k)
        found_by (Some v) q = of_start v q
        found_by None q = of_new q (declares_decided block n)

      place_by : (n : List ℕ) (o : Option (Known g.Reported)) → find_name n w.own ≡ o → Place n o
      place_by n None e = nowhere (λ t a. there n t a e)
      place_by n (Some k) e = found_by n k e (find_name n start.own) refl

      places : (n : List ℕ) → Place n (find_name n w.own)
      places n = place_by n (find_name n w.own) refl

      pub inside : KnowsInside g j exports names w taken block front seen
      inside = record {
        there = seen_there g j taken block (Named front) level w seen exports names knows no_withs places never_ahead;
        known = seen_knows g j taken block (Named front) level w seen exports names knows no_withs places never_ahead;
        repeated = seen_repeats g j taken block (Named front) level w seen exports names knows no_withs places
            never_ahead;
      }

  pub reads_again : StandInTurn w.own (length start.own) (names_all block)
      → ReadsAgain g j exports names w taken block (length start.own)
  reads_again turn = record {
    in_turn = subst (λ (xs : List Ident). StandInTurn w.own (length start.own) xs) (same_names block) turn;
    none_before = λ n t a b. none_before n t a b;
    inside = λ front n stand. inside front n stand;
  }
