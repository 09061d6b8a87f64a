-- What is said in pieces.
use Rattle.std.proofs.Common.{◌≡◌, ℕ, ◌+◌, ◌<◌, Bool, true, false, List, [], ◌∷◌, ◌++◌, length, take, drop, get_or, suc, subst, Option, Some, None, refl, sym, ap, ◌∙◌, append_assoc}
use Rattle.std.specs.List.{flat_map}
use Rattle.std.proofs.lemmas.List.{append-nil, take-append-drop}
use Rattle.std.proofs.lemmas.Grind.{flat_map-append}
use Rattle.std.proofs.Math.Seq.{drop-cons}
use Rattle.wasm_engine.specs.Reported.{with_bytes}
use Rattle.run_directory.specs.Reported.{Printed, PartPrinted, Says}

more_bytes : (reported : Option (List ℕ)) (a b : List ℕ)
    → with_bytes (with_bytes reported a) b ≡ with_bytes reported (a ++ b)
more_bytes None a b = refl
more_bytes (Some bytes) a b = ap (λ (x : List ℕ). Some x) (append_assoc bytes a b)

no_bytes : (reported : Option (List ℕ)) → with_bytes reported [] ≡ reported
no_bytes None = refl
no_bytes (Some bytes) = ap (λ (x : List ℕ). Some x) (append-nil bytes)

-- what stands before a text, the text, and what stands behind it
split : {X : Type 0} (text : X → List ℕ) (xs : List X) (k : ℕ) (x : X) (said : List ℕ) → k < length xs
    → said ≡ text (get_or xs k x) → (flat_map text (take k xs) ++ said)
    ++ flat_map text (drop (suc k) xs) ≡ flat_map text xs
split {X = X} text xs k x said h is =
    append_assoc (flat_map text (take k xs)) said (flat_map text (drop (suc k) xs))
    ∙ ap (λ (t : List ℕ). flat_map text (take k xs) ++ (t ++ flat_map text (drop (suc k) xs))) is
    ∙ sym (flat_map-append text (take k xs) (get_or xs k x ∷ drop (suc k) xs))
    ∙ ap (λ (ys : List X). flat_map text (take k xs ++ ys)) (sym (drop-cons xs k x h))
    ∙ ap (flat_map text) (take-append-drop k xs)

module _ {S : Type 0} (reported : S → Option (List ℕ)) (failed : S → ℕ) where
  -- the same bytes under another name
  pub said : (ok : Bool) (bytes wanted : List ℕ) (before after : S) → Says reported failed ok bytes before after
      → wanted ≡ bytes → Says reported failed ok wanted before after
  said ok bytes wanted before after h e = subst (λ (b : List ℕ). Says reported failed ok b before after) (sym e) h

  pub nothing : (s : S) → Printed reported failed [] s s
  nothing s = record { taken = sym (no_bytes (reported s)); failures = refl }

  -- bytes behind others
  pub says_more : (ok : Bool) (a b : List ℕ) (before between after : S) → Printed reported failed a before between
      → Says reported failed ok b between after → Says reported failed ok (a ++ b) before after
  says_more true a b before between after first next = record {
    taken = next.taken ∙ ap (λ (t : Option (List ℕ)). with_bytes t b) first.taken ∙ more_bytes (reported before) a b;
    failures = next.failures ∙ first.failures;
  }
  says_more false a b before between after first next = record {
    front = a ++ next.front;
    rest = next.rest;
    all = ap (λ (x : List ℕ). a ++ x) next.all ∙ sym (append_assoc a next.front next.rest);
    taken = next.taken ∙ ap (λ (t : Option (List ℕ)). with_bytes t next.front) first.taken
        ∙ more_bytes (reported before) a next.front;
    failures = next.failures ∙ ap (λ (n : ℕ). n + 1) first.failures;
  }

  -- more was to be said where it failed
  pub stopped : (a b : List ℕ) (before after : S) → PartPrinted reported failed a before after
      → PartPrinted reported failed (a ++ b) before after
  stopped a b before after h = record {
    front = h.front;
    rest = h.rest ++ b;
    all = ap (λ (x : List ℕ). x ++ b) h.all ∙ append_assoc h.front h.rest b;
    taken = h.taken;
    failures = h.failures;
  }

  -- a byte was not taken
  pub not_taken : (bytes : List ℕ) (k : ℕ) (before between after : S)
      → Printed reported failed (take k bytes) before between → failed after ≡ failed between + 1
      → reported after ≡ reported between → PartPrinted reported failed bytes before after
  not_taken bytes k before between after so_far f t = record {
    front = take k bytes;
    rest = drop k bytes;
    all = sym (take-append-drop k bytes);
    taken = t ∙ so_far.taken;
    failures = f ∙ ap (λ (n : ℕ). n + 1) so_far.failures;
  }

  -- of several things that are said, one was not said to its end
  pub not_said : {X : Type 0} (text : X → List ℕ) (xs : List X) (k : ℕ) (x : X) (said : List ℕ)
      (before between after : S) → k < length xs → said ≡ text (get_or xs k x)
      → Printed reported failed (flat_map text (take k xs)) before between
      → PartPrinted reported failed said between after → PartPrinted reported failed (flat_map text xs) before after
  not_said text xs k x said before between after h is so_far part =
      let whole = stopped (flat_map text (take k xs) ++ said) (flat_map text (drop (suc k) xs)) before after
      (says_more false (flat_map text (take k xs)) said before between after so_far part) in
      subst (λ (bytes : List ℕ). PartPrinted reported failed bytes before after) (split text xs k x said h is) whole
