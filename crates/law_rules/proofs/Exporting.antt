-- If nothing is reported, a declaration exports what the rules say.
use Rattle.std.proofs.Common.{◌≡◌, ℕ, Bool, true, false, List, ◌∷◌, length, Option, Result, Ok, inl, inr, refl, sym, subst}
use Rattle.m2_rule.specs.declared.breach.Breach.{Breach}
use Rattle.m2_tree.specs.declared.name.Ident.{Ident}
use Rattle.typed_tree.specs.declared.meaning.Meaning.{Meaning}
use Rattle.typed_tree.specs.declared.known_types.Types.{Types}
use Rattle.typed_tree.specs.Names.{find_name}
use Rattle.check_scope.specs.declared.known.Known.{Known}
use Rattle.check_scope.specs.declared.scope.Scope.{Scope}
use Rattle.check_scope.specs.Elaborated.{Gathers}
use Rattle.def_typing.specs.Things.{Standing}
use Rattle.def_typing.specs.Parts.{Among}
use Rattle.def_typing.specs.Declarations.{Declaration, Declared as Resolved, names_of, constants_of}
use Rattle.def_typing.specs.Definitions.{Placed}
use Rattle.law_typing.specs.Judging.{Judges}
use Rattle.law_typing.proofs.Entering.{named_right}
use Rattle.law_typing.proofs.Beginning.{Adding, adding_name}
use Rattle.law_typing.proofs.Recording.{NoTwice}
use Rattle.law_rules.specs.Exports.{IsEntry, constant_means, OwnMeans, ConstantMeans}
use Rattle.law_rules.proofs.Formals.{twice_split}
use Rattle.law_rules.proofs.Among.{among_left, among_right}
use Rattle.law_rules.proofs.Taking.{new_of, Takes}
use Rattle.law_rules.proofs.Entries.{IsDeclared, by_declaration}
use Rattle.law_rules.proofs.Listing.{all_names, found_both, listed_from, OneListed, OneListing}
use Rattle.law_rules.proofs.Stepping.{Standpoint, place, NowKnown, owned_means, constant_is, other_kept}

not_true : (b : Bool) → (b ≡ true → ⊥) → b ≡ false
not_true true c = absurd (c refl)
not_true false c = refl

module _ (g : Gathers) (j : Judges g) (exports : ℕ → Ident → Standing) (start : Scope g.Reported)
    (names : Ident → Standing) (taken : List ℕ → Bool) (d : Resolved) (ds : List Declaration) {B : Breach → Type 0}
    {s : Scope g.Reported} (v : Standpoint g j exports start names taken (d.what ∷ ds) B s) (t : Scope g.Reported)
    (now : (n : List ℕ) → NowKnown g j exports start names taken d ds v n (find_name n t.own)) where
  abbrev R : Type 0
  R = Result (Unit {0}) g.Reported

  abbrev Taken : List ℕ → Type 0
  Taken n = taken n ≡ true

  module _ (takes : Takes g s d.what t) (own_new : NoTwice Taken (names_of d.what))
      (constants_new : NoTwice (Adding (names_of d.what) Taken) (constants_of d.what)) where
    all_new : NoTwice Taken (all_names d.what)
    all_new f h = elim (twice_split Taken (names_of d.what) (constants_of d.what) f h)
        [ inl y ↦ own_new f y | inr y ↦ constants_new f y ]

    abbrev P : Placed
    P = place g j exports start names taken d ds v

    abbrev Own : Ident → Meaning → Type 0
    Own = OwnMeans exports (length s.variables) (length s.procedures) P

    free_name : (x : Ident) → Among x (all_names d.what) → taken x.name ≡ false
    free_name x m = not_true (taken x.name) (new_of Taken (all_names d.what) all_new x m)

    each_own : (x : Ident) → Among x (names_of d.what) → (m : Meaning)
        × IsDeclared m (find_name x.name t.own) × Own x m
    each_own x y = let q = takes.own x y in (
      q.0,
      q.1,
      record {
        entry = subst (λ (types : Types). IsEntry types.home (length s.variables)
            (length s.procedures) d.what x q.0) v.block.same.types q.2;
        meaning =
            owned_means g j exports start names taken d ds v x.name (now x.name)
            (free_name x (among_left (constants_of d.what) y)) (x, y, refl) q.0 q.1;
      },
    )

    each_constant : (x : Ident) → Among x (constants_of d.what) → (m : Meaning)
        × IsDeclared m (find_name x.name t.own) × ConstantMeans exports P x m
    each_constant x y = let q = constant_is g j exports start names taken d ds v x.name (now x.name)
        (free_name x (among_right (names_of d.what) y))
        (λ h. new_of (Adding (names_of d.what) Taken) (constants_of d.what) constants_new x y
        (adding_name (names_of d.what) Taken x.name h.0 h.1 h.2)) (named_right (names_of d.what) (x, y, refl)) in (
          constant_means q.0,
          subst (λ (k : Option (Known g.Reported)). IsDeclared (constant_means q.0) k) (sym q.2) by_declaration,
          (q.0, q.1, refl),
        )

    one_listed : OneListed g exports P s t
    one_listed = let q = listed_from (names_of d.what) each_own in
        let z = listed_from (constants_of d.what) each_constant in record {
          new = all_new;
          own = q.0;
          constants = z.0;
          found = found_both q.1 z.1;
          owns = q.2;
          brings = z.2;
          variables = takes.variables;
          procedures = takes.procedures;
        }

  pub listing_one : (r q : R) → (q ≡ Ok tt → (r ≡ Ok tt) × Takes g s d.what t)
      → (q ≡ Ok tt → NoTwice Taken (names_of d.what))
      → (q ≡ Ok tt → NoTwice (Adding (names_of d.what) Taken) (constants_of d.what))
      → OneListing g exports (place g j exports start names taken d ds v) (s, r) (t, q)
  listing_one r q fine own_new constants_new = record {
    others = λ n w. other_kept g j exports start names taken d ds v n (v.block.own n) (now n) w;
    listed = λ e. let z = fine e in (z.0, one_listed z.1 (own_new e) (constants_new e));
  }
