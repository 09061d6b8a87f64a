-- If nothing is reported, the names that are declared are exported in the order of the text.
use Rattle.std.proofs.Common.{◌≡◌, ℕ, ◌+◌, Bool, true, List, [], ◌∷◌, ◌++◌, length, Option, Ok, ◌⊎◌, inl, inr, refl, sym, ap, subst, ◌∙◌}
use Rattle.std.specs.Prelude.{◌||◌}
use Rattle.m2_tree.specs.declared.name.Ident.{Ident}
use Rattle.typed_tree.specs.declared.meaning.Meaning.{Meaning}
use Rattle.typed_tree.specs.Names.{find_name}
use Rattle.check_scope.specs.declared.known.Known.{Known}
use Rattle.check_scope.specs.declared.scope.Scope.{Scope}
use Rattle.check_scope.specs.Elaborated.{Gathers}
use Rattle.check_scope.specs.Scopes.{State}
use Rattle.def_typing.specs.Things.{Standing}
use Rattle.def_typing.specs.Parts.{Among, here, later, Named}
use Rattle.def_typing.specs.Declarations.{Declaration, names_of, constants_of, Declares, AnyDeclares, is_among}
use Rattle.def_typing.specs.Definitions.{Placed}
use Rattle.def_typing.specs.Imports.{Entry}
use Rattle.law_typing.proofs.Combining.{Decided, holds, fails_it}
use Rattle.law_typing.proofs.Heading.{append_assoc}
use Rattle.law_typing.proofs.Entering.{named_left, named_right, named_split, among_decided}
use Rattle.law_typing.proofs.Beginning.{added}
use Rattle.law_typing.proofs.Recording.{NoTwice}
use Rattle.law_rules.specs.Exports.{Lists, no_name, a_name, OwnMeans, ConstantMeans, AreExported, one_exports, variables_of, procedures_of}
use Rattle.law_rules.proofs.Formals.{twice_split}
use Rattle.law_rules.proofs.Among.{among_left, among_right}
use Rattle.law_rules.proofs.Twices.{twice_as, either_first, either_second}
use Rattle.law_rules.proofs.Entries.{IsDeclared, Found, no_more, one_more}

-- ---- names of declarations

abbrev pub all_names : Declaration → List Ident
all_names d = names_of d ++ constants_of d

abbrev pub names_all : List Declaration → List Ident
names_all [] = []
names_all (d ∷ ds) = all_names d ++ names_all ds

pub names_both : (xs ys : List Declaration) → names_all (xs ++ ys) ≡ names_all xs ++ names_all ys
names_both [] ys = refl
names_both (x ∷ xs) ys = ap (λ (ns : List Ident). all_names x ++ ns) (names_both xs ys)
    ∙ sym (append_assoc (all_names x) (names_all xs) (names_all ys))

pub any_named_all : (ds : List Declaration) {n : List ℕ} → AnyDeclares ds n → Named (names_all ds) n
any_named_all [] a = elim a.1 [ ]
any_named_all (d ∷ ds) (_, here, h) = named_left (names_all ds) h
any_named_all (d ∷ ds) (x, later m, h) = named_right (all_names d) (any_named_all ds (x, m, h))

module _ {T : Type 0} where
  pub found_both : {own : List (List ℕ × Known T)} {xs ys : List Ident} {es fs : List Entry} → Found own xs es
      → Found own ys fs → Found own (xs ++ ys) (es ++ fs)
  found_both no_more k = k
  found_both (one_more e f) k = one_more e (found_both f k)

  pub found_moves : {own new : List (List ℕ × Known T)} {xs : List Ident} {es : List Entry}
      → ((x : Ident) → Among x xs → find_name x.name new ≡ find_name x.name own) → Found own xs es → Found new xs es
  found_moves h no_more = no_more
  found_moves h (one_more {x = x} {m = w} e f) =
      one_more (subst (λ (k : Option (Known T)). IsDeclared w k) (sym (h x here)) e)
      (found_moves (λ y m. h y (later m)) f)

  -- one name after another
  pub listed_from : {own : List (List ℕ × Known T)} {Is : Ident → Meaning → Type 0} (xs : List Ident)
      → ((x : Ident) → Among x xs → (m : Meaning) × IsDeclared m (find_name x.name own) × Is x m)
      → (es : List Entry) × Found own xs es × Lists Is xs es
  listed_from [] h = ([], no_more, no_name)
  listed_from (x ∷ xs) h = let q = h x here in let z = listed_from xs (λ y m. h y (later m)) in
      ((x.name, q.0) ∷ z.0, one_more q.1 z.1, a_name q.2 z.2)

module _ (g : Gathers) (exports : ℕ → Ident → Standing) where
  abbrev S : Type 0
  S = Scope g.Reported

  abbrev St : Type 0
  St = State (Unit {0}) g.Reported

  -- one declaration
  pub record OneListed (p : Placed) (s t : S) : Type 0 where
    pub new : NoTwice (λ n. p.at.taken n ≡ true) (all_names p.what)
    pub own : List Entry
    pub constants : List Entry
    pub found : Found t.own (all_names p.what) (own ++ constants)
    pub owns : Lists (OwnMeans exports (length s.variables) (length s.procedures) p) (names_of p.what) own
    pub brings : Lists (ConstantMeans exports p) (constants_of p.what) constants
    pub variables : length t.variables ≡ length s.variables + variables_of p.what
    pub procedures : length t.procedures ≡ length s.procedures + procedures_of p.what

  pub record OneListing (p : Placed) (old up : St) : Type 0 where
    pub others : (n : List ℕ) → (Declares p.what n → ⊥) ⊎ (p.at.taken n ≡ true)
        → find_name n up.0.own ≡ find_name n old.0.own
    pub listed : up.1 ≡ Ok tt → (old.1 ≡ Ok tt) × OneListed p old.0 up.0

  -- all of them
  pub record AllListed (taken next : List ℕ → Bool) (xs : List Declaration) (whole : List Placed) (s t : S) : Type 0
    where
      pub new : NoTwice (λ n. taken n ≡ true) (names_all xs)
      pub reached : (n : List ℕ) → Named (names_all xs) n → next n ≡ true
      pub entries : List Entry
      pub found : Found t.own (names_all xs) entries
      pub lists : (ws : List Placed) (es : List Entry)
          → AreExported exports (length t.variables) (length t.procedures) ws es
          → AreExported exports (length s.variables) (length s.procedures) (whole ++ ws) (entries ++ es)

  pub record Listing (taken next : List ℕ → Bool) (xs : List Declaration) (whole : List Placed) (old up : St) : Type 0
    where
      pub kept : (n : List ℕ) → taken n ≡ true → (next n ≡ true) × (find_name n up.0.own ≡ find_name n old.0.own)
      pub others : (n : List ℕ) → (AnyDeclares xs n → ⊥) → find_name n up.0.own ≡ find_name n old.0.own
      pub listed : up.1 ≡ Ok tt → (old.1 ≡ Ok tt) × AllListed taken next xs whole old.0 up.0

  pub listing_nothing : (taken : List ℕ → Bool) (st : St) → Listing taken taken [] [] st st
  listing_nothing taken st = record {
    kept = λ n q. (q, refl);
    others = λ n c. refl;
    listed = λ e. (
      e,
      record {
        new = λ f h. absurd h;
        reached = λ n h. elim h.1 [ ];
        entries = [];
        found = no_more;
        lists = λ ws es k. k;
      },
    );
  }

  named_taken : (xs : List Ident) (n : List ℕ) → Named xs n → is_among n xs ≡ true
  named_taken xs n h = by (among_decided xs n)
    where
      by : {b : Bool} → Decided (Named xs n) b → b ≡ true
      by (holds q) = refl
      by (fails_it c) = absurd (c h)

  module _ (p : Placed) (mid next : List ℕ → Bool)
      (follows : (n : List ℕ) → mid n ≡ (is_among n (all_names p.what) || p.at.taken n)) (xs : List Declaration)
      (whole : List Placed) (old st up : St) (q : OneListing p old st) (z : Listing mid next xs whole st up) where
    mid_taken : (n : List ℕ) → p.at.taken n ≡ true → mid n ≡ true
    mid_taken n t = follows n ∙ either_second (is_among n (all_names p.what)) (p.at.taken n) t

    mid_named : (n : List ℕ) → Named (all_names p.what) n → mid n ≡ true
    mid_named n h = follows n ∙ either_first (is_among n (all_names p.what)) (p.at.taken n)
        (named_taken (all_names p.what) n h)

    one_then : OneListed p old.0 st.0 → AllListed mid next xs whole st.0 up.0
        → AllListed p.at.taken next (p.what ∷ xs) (p ∷ whole) old.0 up.0
    one_then a b = record {
      new = λ f h. elim (twice_split (λ n. p.at.taken n ≡ true) (all_names p.what) (names_all xs) f h) [
        | inl y ↦ a.new f y
        | inr y ↦ b.new f (twice_as (λ n w. elim (added (all_names p.what) (λ n. p.at.taken n ≡ true) n w)
            [ inl u ↦ mid_named n u | inr u ↦ mid_taken n u ]) (names_all xs) f y)
      ];
      reached = λ n h. elim (named_split (all_names p.what) h)
          [ inl y ↦ (z.kept n (mid_named n y)).0 | inr y ↦ b.reached n y ];
      entries = (a.own ++ a.constants) ++ b.entries;
      found = found_both (found_moves (λ x m. (z.kept x.name (mid_named x.name (x, m, refl))).1) a.found) b.found;
      lists = λ ws es k. subst (λ (fs : List Entry). AreExported exports (length old.0.variables)
          (length old.0.procedures) (p ∷ (whole ++ ws)) fs)
          (sym (append_assoc (a.own ++ a.constants) b.entries es ∙ append_assoc a.own a.constants (b.entries ++ es)))
          (one_exports a.owns a.brings (subst (λ (v : ℕ). AreExported exports v
          (length old.0.procedures + procedures_of p.what) (whole ++ ws) (b.entries ++ es)) a.variables
          (subst (λ (v : ℕ). AreExported exports (length st.0.variables) v (whole ++ ws) (b.entries ++ es))
          a.procedures (b.lists ws es k))));
    }

    pub listing_more : Listing p.at.taken next (p.what ∷ xs) (p ∷ whole) old up
    listing_more = record {
      kept = λ n t. let k = z.kept n (mid_taken n t) in (k.0, k.1 ∙ q.others n (inr t));
      others = λ n c. z.others n (λ a. c (a.0, later a.1, a.2)) ∙ q.others n (inl (λ h. c (p.what, here, h)));
      listed = λ e. let b = z.listed e in let a = q.listed b.0 in (a.0, one_then a.1 b.1);
    }

  module _ (taken mid next : List ℕ → Bool) (xs ys : List Declaration) (ws us : List Placed) (old st up : St)
      (q : Listing taken mid xs ws old st) (z : Listing mid next ys us st up) where
    both_then : AllListed taken mid xs ws old.0 st.0 → AllListed mid next ys us st.0 up.0
        → AllListed taken next (xs ++ ys) (ws ++ us) old.0 up.0
    both_then a b = record {
      new = subst (λ (ns : List Ident). NoTwice (λ n. taken n ≡ true) ns) (sym (names_both xs ys))
          (λ f h. elim (twice_split (λ n. taken n ≡ true) (names_all xs) (names_all ys) f h) [
            | inl y ↦ a.new f y
            | inr y ↦ b.new f (twice_as (λ n w. elim (added (names_all xs) (λ n. taken n ≡ true) n w)
                [ inl u ↦ a.reached n u | inr u ↦ (q.kept n u).0 ]) (names_all ys) f y)
          ]);
      reached = λ n h. elim (named_split (names_all xs) (subst (λ (ns : List Ident). Named ns n) (names_both xs ys) h))
          [ inl y ↦ (z.kept n (a.reached n y)).0 | inr y ↦ b.reached n y ];
      entries = a.entries ++ b.entries;
      found = subst (λ (ns : List Ident). Found up.0.own ns (a.entries ++ b.entries)) (sym (names_both xs ys))
          (found_both (found_moves (λ x m. (z.kept x.name (a.reached x.name (x, m, refl))).1) a.found) b.found);
      lists = λ vs es k. subst (λ (fs : List Entry). AreExported exports (length old.0.variables)
          (length old.0.procedures) ((ws ++ us) ++ vs) fs) (sym (append_assoc a.entries b.entries es))
          (subst (λ (ps : List Placed). AreExported exports (length old.0.variables) (length old.0.procedures) ps
          (a.entries ++ (b.entries ++ es))) (sym (append_assoc ws us vs))
          (a.lists (us ++ vs) (b.entries ++ es) (b.lists vs es k)));
    }

    any_left : {n : List ℕ} → AnyDeclares xs n → AnyDeclares (xs ++ ys) n
    any_left a = (a.0, among_left ys a.1, a.2)

    any_right : {n : List ℕ} → AnyDeclares ys n → AnyDeclares (xs ++ ys) n
    any_right a = (a.0, among_right xs a.1, a.2)

    pub listing_both : Listing taken next (xs ++ ys) (ws ++ us) old up
    listing_both = record {
      kept = λ n t. let k = q.kept n t in let m = z.kept n k.0 in (m.0, m.1 ∙ k.1);
      others = λ n c. z.others n (λ a. c (any_right a)) ∙ q.others n (λ a. c (any_left a));
      listed = λ e. let b = z.listed e in let a = q.listed b.0 in (a.0, both_then a.1 b.1);
    }
