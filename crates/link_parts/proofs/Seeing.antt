-- What is known of definitions that modules were compiled with.
use Rattle.std.proofs.Common.{◌≡◌, ℕ, suc, ◌+◌, ◌<◌, ◌≤◌, Bool, true, false, cond, List, [], ◌∷◌, ◌++◌, map, length, get_or, drop, Option, Some, None, Result, Ok, Err, refl, sym, ap, subst, ◌∙◌, add-one}
use Rattle.std.proofs.lemmas.List.{drop_all, length-map, get_or-map}
use Rattle.std.proofs.Math.Seq.{drop-cons}
use Rattle.std.specs.Option.{option_map}
use Rattle.std.specs.String.{string_bytes}
use Rattle.m2_tree.specs.Names.{same_name}
use Rattle.typed_tree.specs.Names.{find_name, enter_name}
use Rattle.link_parts.specs.declared.part.Interface.{Interface}
use Rattle.link_parts.specs.declared.part.Part.{Part}
use Rattle.link_parts.specs.declared.fitting.Seen.{Seen}
use Rattle.link_parts.specs.declared.fault.LinkFault.{LinkFault}
use Rattle.link_parts.specs.declared.fault.LinkFault.TheVariants as fault
use Rattle.link_parts.specs.Fitting.{Use, use_of, uses_of, uses_from}
use Rattle.link_parts.specs.Held.{seen_of, Known, known_of, held_against, with_use, with_uses, ◌>>=◌, Tells}

found_by : (b : Bool) (s : Seen) (x : Option Seen) (y : Option (ℕ × List ℕ)) → option_map seen_of x ≡ y
    → option_map seen_of (cond b (Some s) x) ≡ cond b (Some (seen_of s)) y
found_by true s x y h = refl
found_by false s x y h = h

-- what is found is found of what was seen
pub found_of : (n : List ℕ) (es : List (List ℕ × Seen))
    → option_map seen_of (find_name n es) ≡ find_name n (known_of es)
found_of n [] = refl
found_of n (e ∷ es) = found_by (same_name n e.0) e.1 (find_name n es) (find_name n (known_of es)) (found_of n es)

entered_by : (b : Bool) (n : List ℕ) (s : Seen) (e : List ℕ × Seen) (es xs : List (List ℕ × Seen)) (ys : Known)
    → known_of xs ≡ ys
    → known_of (cond b ((e.0, s) ∷ es) (e ∷ xs)) ≡ cond b ((e.0, seen_of s) ∷ known_of es) ((e.0, seen_of e.1) ∷ ys)
entered_by true n s e es xs ys h = refl
entered_by false n s e es xs ys h = ap (λ (zs : Known). (e.0, seen_of e.1) ∷ zs) h

-- what is entered is entered for what was seen
pub entered_of : (n : List ℕ) (s : Seen) (es : List (List ℕ × Seen))
    → known_of (enter_name n s es) ≡ enter_name n (seen_of s) (known_of es)
entered_of n s [] = refl
entered_of n s (e ∷ es) = entered_by (same_name n e.0) n s e es (enter_name n s es)
    (enter_name n (seen_of s) (known_of es)) (entered_of n s es)

-- want of memory tells nothing
pub no_memory : (r : Result (Unit {0}) LinkFault) (e : LinkFault) (now : Known) (all : Result Known (ℕ × Use))
    → r ≡ Err e → e ≡ fault.NoMemory → Tells r now all
no_memory r e now all is of = rw (is, of) tt

pub entered : (n m : List ℕ) (s : Seen) (sum : List ℕ) (es new : List (List ℕ × Seen)) → new ≡ enter_name n s es → n ≡ m
    → string_bytes s.sum ≡ sum
    → known_of new ≡ enter_name m (s.by, sum) (known_of es)
entered n m s sum es new is same sums =
    ap known_of is ∙ entered_of n s es ∙ ap (λ (k : List ℕ). enter_name k (seen_of s) (known_of es)) same
    ∙ ap (λ (k : List ℕ). enter_name m (s.by, k) (known_of es)) sums

module _ (n : List ℕ) (u : Use) (es : List (List ℕ × Seen)) (r : Result (Unit {0}) LinkFault) (now : Known) where
  pub none_found : find_name n es ≡ None → n ≡ u.name → Tells r now (Ok (enter_name u.name (u.by, u.sum) (known_of es)))
      → Tells r now (with_use u (known_of es))
  none_found none same told =
      let found : find_name u.name (known_of es) ≡ None = ap (λ (k : List ℕ). find_name k (known_of es)) (sym same)
      ∙ sym (found_of n es) ∙ ap (option_map seen_of) none in
      subst (λ (o : Option (ℕ × List ℕ)). Tells r now (held_against u (known_of es) o)) (sym found) told

  pub some_found : (s : Seen) → find_name n es ≡ Some s → n ≡ u.name
      → Tells r now (held_against u (known_of es) (Some (seen_of s))) → Tells r now (with_use u (known_of es))
  some_found s some same told =
      let found : find_name u.name (known_of es) ≡ Some (seen_of s) =
      ap (λ (k : List ℕ). find_name k (known_of es)) (sym same) ∙ sym (found_of n es) ∙ ap (option_map seen_of) some in
      subst (λ (o : Option (ℕ × List ℕ)). Tells r now (held_against u (known_of es) o)) (sym found) told

-- ---- one use after the other

-- what was told of no fault
pub told_well : (now : Known) (all : Result Known (ℕ × Use)) → Tells (Ok tt) now all → all ≡ Ok now
told_well now (Ok known) h = ap (λ (k : Known). Ok k) (sym h)
told_well now (Err e) h = absurd h

-- a fault of the first of two steps is one of both
pub told_fault : (e : LinkFault) (now later : Known) (first : Result Known (ℕ × Use))
    (next : Known → Result Known (ℕ × Use)) → Tells (Err e) now first → Tells (Err e) later (first >>= next)
told_fault fault.NoMemory now later first next h = tt
told_fault fault.NoProgram now later first next h = absurd h
told_fault (fault.Program n) now later first next h = absurd h
told_fault (fault.Interfaces m n name) now later (Ok known) next h = absurd h
told_fault (fault.Interfaces m n name) now later (Err e) next h = h
told_fault (fault.Imports n) now later first next h = absurd h
told_fault (fault.Pages n) now later first next h = absurd h

module _ (us : List Use) (k : ℕ) (s : Known) (total : Result Known (ℕ × Use)) where
  at_use : (d : Use) → k < length us → with_uses (drop k us) s
      ≡ (with_use (get_or us k d) s >>= with_uses (drop (suc k) us))
  unfolding with_uses
  at_use d h = ap (λ (xs : List Use). with_uses xs s) (drop-cons us k d h)

  pub uses_more : (d : Use) (t : Known) → k < length us → Tells (Ok tt) t (with_use (get_or us k d) s)
      → with_uses (drop k us) s ≡ total → with_uses (drop (k + 1) us) t ≡ total
  uses_more d t h told so_far = rw add-one
      (sym (at_use d h ∙ ap (λ (r : Result Known (ℕ × Use)). r >>= with_uses (drop (suc k) us))
      (told_well t (with_use (get_or us k d) s) told)) ∙ so_far)

  pub uses_fail : (d : Use) (e : LinkFault) (now later : Known) → k < length us
      → Tells (Err e) now (with_use (get_or us k d) s) → with_uses (drop k us) s ≡ total → Tells (Err e) later total
  uses_fail d e now later h told so_far =
      subst (λ (r : Result Known (ℕ × Use)). Tells (Err e) later r) (sym (at_use d h) ∙ so_far)
      (told_fault e now later (with_use (get_or us k d) s) (with_uses (drop (suc k) us)) told)

  pub uses_none : length us ≤ k → with_uses (drop k us) s ≡ total → Tells (Ok tt) s total
  unfolding with_uses
  uses_none h so_far = subst (λ (r : Result Known (ℕ × Use)). Tells (Ok tt) s r)
      (sym (ap (λ (xs : List Use). with_uses xs s) (drop_all k us h)) ∙ so_far) refl

-- the uses of one module
module _ (n : ℕ) (xs ys : List Interface) (k : ℕ) (s : Known) (total : Result Known (ℕ × Use)) (same : xs ≡ ys) where
  used_at : (x : Interface) → k < length xs → x ≡ get_or xs k x → get_or (map (use_of n) ys) k (use_of n x) ≡ use_of n x
  used_at x h is = ap (λ (zs : List Interface). get_or (map (use_of n) zs) k (use_of n x)) (sym same)
      ∙ get_or-map (use_of n) xs k x (use_of n x) h ∙ ap (use_of n) (sym is)

  long : k < length xs → k < length (map (use_of n) ys)
  long h = subst (λ (m : ℕ). k < m) (ap length same ∙ sym (length-map ys (use_of n))) h

  pub interfaces_more : (x : Interface) (t : Known) → k < length xs → x ≡ get_or xs k x
      → Tells (Ok tt) t (with_use (use_of n x) s) → with_uses (drop k (map (use_of n) ys)) s ≡ total
      → with_uses (drop (k + 1) (map (use_of n) ys)) t ≡ total
  interfaces_more x t h is told so_far =
      uses_more (map (use_of n) ys) k s total (use_of n x) t (long h)
      (subst (λ (u : Use). Tells (Ok tt) t (with_use u s)) (sym (used_at x h is)) told) so_far

  pub interfaces_fail : (x : Interface) (e : LinkFault) (now later : Known) → k < length xs → x ≡ get_or xs k x
      → Tells (Err e) now (with_use (use_of n x) s) → with_uses (drop k (map (use_of n) ys)) s ≡ total
      → Tells (Err e) later total
  interfaces_fail x e now later h is told so_far =
      uses_fail (map (use_of n) ys) k s total (use_of n x) e now later (long h)
      (subst (λ (u : Use). Tells (Err e) now (with_use u s)) (sym (used_at x h is)) told) so_far

  pub interfaces_none : length xs ≤ k → with_uses (drop k (map (use_of n) ys)) s ≡ total → Tells (Ok tt) s total
  interfaces_none h so_far = uses_none (map (use_of n) ys) k s total
      (subst (λ (m : ℕ). m ≤ k) (ap length same ∙ sym (length-map ys (use_of n))) h) so_far

-- ---- one module after the other

append_by : (us vs : List Use) (r : Result Known (ℕ × Use))
    → ((t : Known) → with_uses (us ++ vs) t ≡ (with_uses us t >>= with_uses vs))
    → (r >>= with_uses (us ++ vs)) ≡ ((r >>= with_uses us) >>= with_uses vs)
append_by us vs (Ok t) h = h t
append_by us vs (Err e) h = refl

uses_append : (us vs : List Use) (s : Known) → with_uses (us ++ vs) s ≡ (with_uses us s >>= with_uses vs)
unfolding with_uses
uses_append [] vs s = refl
uses_append (u ∷ us) vs s = append_by us vs (with_use u s) (uses_append us vs)

module _ (parts : List Part) (k : ℕ) (s : Known) (total : Result Known (ℕ × Use)) where
  at_part : (x : Part) → k < length parts → x ≡ get_or parts k x
      → with_uses (uses_from k (drop k parts)) s
      ≡ (with_uses (uses_of k x) s >>= with_uses (uses_from (k + 1) (drop (suc k) parts)))
  at_part x h is =
      ap (λ (ps : List Part). with_uses (uses_from k ps) s) (drop-cons parts k x h)
      ∙ ap (λ (p : Part). with_uses (uses_of k p ++ uses_from (k + 1) (drop (suc k) parts)) s) (sym is)
      ∙ uses_append (uses_of k x) (uses_from (k + 1) (drop (suc k) parts)) s

  pub parts_more : (x : Part) (t : Known) → k < length parts → x ≡ get_or parts k x
      → Tells (Ok tt) t (with_uses (uses_of k x) s) → with_uses (uses_from k (drop k parts)) s ≡ total
      → with_uses (uses_from (k + 1) (drop (k + 1) parts)) t ≡ total
  parts_more x t h is told so_far =
      sym (at_part x h is ∙ ap (λ (r : Result Known (ℕ × Use)). r >>=
      with_uses (uses_from (k + 1) (drop (suc k) parts))) (told_well t (with_uses (uses_of k x) s) told)
      ∙ ap (λ (n : ℕ). with_uses (uses_from (k + 1) (drop n parts)) t) (sym (add-one k))) ∙ so_far

  pub parts_fail : (x : Part) (e : LinkFault) (now later : Known) → k < length parts → x ≡ get_or parts k x
      → Tells (Err e) now (with_uses (uses_of k x) s) → with_uses (uses_from k (drop k parts)) s ≡ total
      → Tells (Err e) later total
  parts_fail x e now later h is told so_far =
      subst (λ (r : Result Known (ℕ × Use)). Tells (Err e) later r) (sym (at_part x h is) ∙ so_far)
      (told_fault e now later (with_uses (uses_of k x) s) (with_uses (uses_from (k + 1) (drop (suc k) parts))) told)

  pub parts_none : length parts ≤ k → with_uses (uses_from k (drop k parts)) s ≡ total → Tells (Ok tt) s total
  unfolding with_uses
  parts_none h so_far = subst (λ (r : Result Known (ℕ × Use)). Tells (Ok tt) s r)
      (sym (ap (λ (ps : List Part). with_uses (uses_from k ps) s) (drop_all k parts h)) ∙ so_far) refl
