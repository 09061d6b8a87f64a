-- A definition is read in one way.
use Rattle.std.proofs.Common.{◌≡◌, ℕ, Bool, List, [], ◌∷◌, Option, Some, refl, sym, ap, subst, ◌∙◌}
use Rattle.std.proofs.Math.Path.{fun_ext}
use Rattle.m2_rule.specs.declared.breach.Breach.{Breach}
use Rattle.m2_tree.specs.declared.name.Ident.{Ident}
use Rattle.typed_tree.specs.declared.known_types.Types.{Types}
use Rattle.typed_tree.specs.declared.table.Table.{Table}
use Rattle.check_scope.specs.Elaborated.{Gathers}
use Rattle.check_scope.specs.Scopes.{State}
use Rattle.def_typing.specs.Things.{Standing}
use Rattle.def_typing.specs.TypeExprs.{Member, member_stands, Added}
use Rattle.def_typing.specs.Declarations.{Declaration, constants_of}
use Rattle.def_typing.specs.Definitions.{Context, Placed, IsAdded, Means, Behind, its_own, its_constant, as_before, Follows, AllFollow, nothing_follows, one_follows}
use Rattle.law_typing.specs.Judging.{Judges}
use Rattle.law_typing.proofs.Combining.{Lawful}
use Rattle.law_typing.proofs.Entering.{named_left}
use Rattle.law_rules.proofs.Stepping.{context}
use Rattle.law_rules.proofs.Ordinary.{Stepped}

one_found : {e f : Member} → ◌≡◌ {A = Option Member} (Some e) (Some f) → e ≡ f
one_found q = cc

module _ (exports : ℕ → Ident → Standing) (p : Placed)
    (one : (t u : Standing) → Means exports p t → Means exports p u → t ≡ u) where
  behind_only : (x : Ident) {s t : Standing} → Behind exports p x s → Behind exports p x t → s ≡ t
  behind_only x {s = s} {t = t} (its_own f o m) (its_own h n w) = one s t m w
  behind_only x (its_own f o m) (its_constant h n d q) = absurd (n o)
  behind_only x (its_own f o m) (as_before c) = absurd (c f (named_left (constants_of p.what) o))
  behind_only x (its_constant f n d q) (its_own h o m) = absurd (n o)
  behind_only x (its_constant f n d q) (its_constant h o w z) =
      ap (λ (e : Member). member_stands e) (one_found (sym q ∙ z))
  behind_only x (its_constant f n d q) (as_before c) = absurd (c f d)
  behind_only x (as_before c) (its_own h o m) = absurd (c h (named_left (constants_of p.what) o))
  behind_only x (as_before c) (its_constant h n d q) = absurd (c h d)
  behind_only x (as_before c) (as_before d) = refl

  same_context : (a b : Context) → a.types ≡ b.types → a.names ≡ b.names → a.taken ≡ b.taken → a ≡ b
  same_context a b e f h =
      ap (λ (x : Types). let c : Context = record { types = x; names = a.names; taken = a.taken } in c) e
      ∙ ap (λ (x : Ident → Standing). let c : Context = record { types = b.types; names = x; taken = a.taken } in c) f
      ∙ ap (λ (x : List ℕ → Bool). let c : Context = record { types = b.types; names = b.names; taken = x } in c) h

  follows_only : (a b : Context) → Follows exports p a → Follows exports p b → a ≡ b
  follows_only a b f h = same_context a b (f.types ∙ sym h.types) (fun_ext (λ x. behind_only x (f.names x) (h.names x)))
      (fun_ext (λ n. f.taken n ∙ sym (h.taken n)))

first_same : {x y : Declaration} {xs ys : List Declaration} → x ∷ xs ≡ y ∷ ys → x ≡ y
first_same q = cc

rest_same : {x y : Declaration} {xs ys : List Declaration} → x ∷ xs ≡ y ∷ ys → xs ≡ ys
rest_same q = cc

module _ (exports : ℕ → Ident → Standing) where
  -- a declaration that is read first
  record First (c : Context) (x : Declaration) (xs : List Declaration) (ps : List Placed) (last : Context) : Type 0
    where
      adds : Added
      added : IsAdded exports (record { at = c; what = x; adds = adds; left = xs })
      next : Context
      follows : Follows exports (record { at = c; what = x; adds = adds; left = xs }) next
      tail : List Placed
      is : ps ≡ record { at = c; what = x; adds = adds; left = xs } ∷ tail
      rest : AllFollow exports next xs tail last

  first_as : (p : Placed) (x : Declaration) (xs : List Declaration) → p.what ≡ x → p.left ≡ xs
      → p ≡ record { at = p.at; what = x; adds = p.adds; left = xs }
  first_as p x xs e q =
      ap (λ (y : Declaration). let z : Placed = record { at = p.at; what = y; adds = p.adds; left = p.left } in z) e
      ∙ ap (λ (ys : List Declaration). let z : Placed = record { at = p.at; what = x; adds = p.adds; left = ys } in z) q

  first_of : {c last : Context} {ds : List Declaration} {ps : List Placed} → AllFollow exports c ds ps last
      → (x : Declaration) (xs : List Declaration) → ds ≡ x ∷ xs → First c x xs ps last
  first_of nothing_follows x xs q = absurd cc
  first_of {last = last} (one_follows {p = p} {c = c} {ps = ps} a f k) x xs q = let e =
      first_as p x xs (first_same q) (rest_same q) in record {
        adds = p.adds;
        added = subst (λ (p : Placed). IsAdded exports p) e a;
        next = c;
        follows = subst (λ (p : Placed). Follows exports p c) e f;
        tail = ps;
        is = ap (λ (p : Placed). p ∷ ps) e;
        rest = subst (λ (ds : List Declaration). AllFollow exports c ds ps last) (rest_same q) k;
      }

  none_left : {c last : Context} {ds : List Declaration} {ps : List Placed} → AllFollow exports c ds ps last → ds ≡ []
      → (ps ≡ []) × (last ≡ c)
  none_left nothing_follows q = (refl, refl)
  none_left (one_follows a f k) q = absurd cc

  pub nothing_only : {c last : Context} {ps : List Placed} → AllFollow exports c [] ps last → (ps ≡ []) × (last ≡ c)
  nothing_only k = none_left k refl

module _ (g : Gathers) (j : Judges g) (lawful : Lawful g j) (exports : ℕ → Ident → Standing) where
  -- Whatever follows in front of other declarations, the first is read so.
  pub step_only : (c : Context) (x : Declaration) (a : Added) (xs : List Declaration) (ts : List Table)
      (B : Breach → Type 0) {old st : State (Unit {0}) g.Reported}
      (q : Stepped g j lawful exports (record { at = c; what = x; adds = a; left = xs }) ts B old st)
      (others : List Placed) (end : Context) → AllFollow exports c (x ∷ xs) others end
      → (tail : List Placed) × (others ≡ record { at = c; what = x; adds = a; left = xs } ∷ tail)
      × AllFollow exports (context q.start q.names q.taken) xs tail end
  step_only c x a xs ts B q others end k =
      let f = first_of exports k x xs refl in
      let e : f.adds ≡ a = q.only f.adds f.added in
      let p : Placed = record { at = c; what = x; adds = a; left = xs } in
      let w : Follows exports p f.next = subst
      (λ (b : Added). Follows exports (record { at = c; what = x; adds = b; left = xs }) f.next) e f.follows in (
        f.tail,
        f.is ∙ ap (λ (b : Added). let y : Placed = record { at = c; what = x; adds = b; left = xs } in
            y ∷ f.tail) e,
        subst (λ (n : Context). AllFollow exports n xs f.tail end)
            (follows_only exports p q.one f.next (context q.start q.names q.taken) w q.follows) f.rest,
      )
