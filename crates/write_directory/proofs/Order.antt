-- Calls that are made one after another.
use Rattle.std.proofs.Common.{◌≡◌, ℕ, ◌+◌, ◌<◌, suc, Bool, true, false, List, [], ◌∷◌, ◌++◌, length, take, drop, map, get_or, Option, Some, None, refl, sym, ap, subst, ◌∙◌, append_assoc, arith, if◌then◌else◌}
use Rattle.std.proofs.lemmas.List.{map_more, map-append, take-append-drop, append-nil}
use Rattle.std.proofs.lemmas.Bool.{true≢false}
use Rattle.std.proofs.Math.Seq.{drop-cons}
use Rattle.write_directory.specs.Calls.{Call, Remove, Write, File, with_calls, link_file, write_call, before_link, AtRemoval, AtModule, AtLink}
use Rattle.write_directory.specs.Saves.{AreMade, Fails, Stops, WritesLink, SavesFiles}

with_calls-append : (noted : Option (List Call)) (a b : List Call)
    → with_calls (with_calls noted a) b ≡ with_calls noted (a ++ b)
with_calls-append None a b = refl
with_calls-append (Some calls) a b = ap (λ (x : List Call). Some x) (append_assoc calls a b)

with_calls-nil : (noted : Option (List Call)) → noted ≡ with_calls noted []
with_calls-nil None = refl
with_calls-nil (Some calls) = ap (λ (x : List Call). Some x) (sym (append-nil calls))

-- other calls are noted behind the first ones
behind : (before now after : Option (List Call)) (calls more : List Call) → now ≡ with_calls before calls
    → after ≡ with_calls now more → after ≡ with_calls before (calls ++ more)
behind before now after calls more e f = f ∙ ap (λ (o : Option (List Call)). with_calls o more) e
    ∙ with_calls-append before calls more

grows : (before between after : ℕ) → between ≡ before → after ≡ between + 1 → before < after
grows before between after e f = omega (arith, e, f)

grows_from : (before between after : ℕ) → between ≡ before → between < after → before < after
grows_from before between after e f = omega (arith, e, f)

module _ {X : Type 0} (file_in : X → File) (xs : List X) (k : ℕ) (x : X) (h : k < length xs) (is : x ≡ get_or xs k x)
  where
    -- the files up to this one
    one_more_file : map write_call (map file_in (take (k + 1) xs)) ≡ map write_call (map file_in (take k xs))
        ++ write_call (file_in x) ∷ []
    one_more_file =
        ap (map write_call) (map_more file_in xs k x h)
        ∙ map-append write_call (map file_in (take k xs)) (file_in (get_or xs k x) ∷ [])
        ∙ ap (λ (y : X). map write_call (map file_in (take k xs)) ++ write_call (file_in y) ∷ []) (sym is)

    between_files : map file_in xs ≡ map file_in (take k xs) ++ file_in x ∷ map file_in (drop (suc k) xs)
    between_files =
        ap (map file_in) (sym (take-append-drop k xs))
        ∙ map-append file_in (take k xs) (drop k xs)
        ∙ ap (λ (ys : List X). map file_in (take k xs) ++ map file_in ys) (drop-cons xs k x h)
        ∙ ap (λ (y : X). map file_in (take k xs) ++ file_in y ∷ map file_in (drop (suc k) xs)) (sym is)

    module _ {D : Type 0} (calls : D → Option (List Call)) (failed : D → ℕ) (before between after : D)
        (so_far : AreMade calls failed (map write_call (map file_in (take k xs))) before between) where
      pub goes_on : failed after ≡ failed between
          → calls after ≡ with_calls (calls between) (write_call (file_in x) ∷ [])
          → AreMade calls failed (map write_call (map file_in (take (k + 1) xs))) before after
      goes_on f e = record {
        noted = subst (λ (made : List Call). calls after ≡ with_calls (calls before) made) (sym one_more_file)
            (behind (calls before) (calls between) (calls after) (map write_call (map file_in (take k xs)))
            (write_call (file_in x) ∷ []) so_far.noted e);
        same = f ∙ so_far.same;
      }

      pub stops : (name : List ℕ) → name ≡ (file_in x).0 → failed after ≡ failed between + 1
          → calls after ≡ with_calls (calls between) (Write name (file_in x).1 false ∷ [])
          → Stops calls failed (map file_in xs) before after
      stops name is_name f e = record {
        made = map write_call (map file_in (take k xs)) ++ Write name (file_in x).1 false ∷ [];
        noted = behind (calls before) (calls between) (calls after) (map write_call (map file_in (take k xs)))
            (Write name (file_in x).1 false ∷ []) so_far.noted e;
        stops = (
          map file_in (take k xs),
          file_in x,
          map file_in (drop (suc k) xs),
          between_files,
          ap
              (λ (n : List ℕ). map write_call (map file_in (take k xs)) ++ Write n (file_in x).1 false ∷ []) is_name,
        );
        grown = grows (failed before) (failed between) (failed after) so_far.same f;
      }

module _ {D : Type 0} (calls : D → Option (List Call)) (failed : D → ℕ) where
  pub nothing_made : (d : D) → AreMade calls failed [] d d
  nothing_made d = record { noted = with_calls-nil (calls d); same = refl }

  -- link failed, and was removed once more
  pub link_failed : (link : List ℕ) (before between after : D) (is_written again : Bool) → is_written ≡ false
      → failed between ≡ failed before + 1 → calls between ≡ with_calls (calls before) (Write link_file link false ∷ [])
      → failed after ≡ (if again then failed between else failed between + 1)
      → calls after ≡ with_calls (calls between) (Remove link_file again ∷ [])
      → WritesLink calls failed link is_written before after
  link_failed link before between after true again w f e g i = absurd (true≢false w)
  link_failed link before between after false true w f e g i = (
    true,
    behind (calls before) (calls between) (calls after) (Write link_file link false ∷ []) (Remove link_file true ∷ []) e
        i,
    omega (arith, f, g),
  )
  link_failed link before between after false false w f e g i = (
    false,
    behind (calls before) (calls between) (calls after) (Write link_file link false ∷ []) (Remove link_file false ∷ [])
        e i,
    omega (arith, f, g),
  )

  module _ (link : List ℕ) (files : List File) where
    -- the first removal failed
    pub not_removed : (before after : D) → failed after ≡ failed before + 1
        → calls after ≡ with_calls (calls before) (Remove link_file false ∷ [])
        → Fails calls failed link files before after
    not_removed before after f e = record {
      made = Remove link_file false ∷ [];
      noted = e;
      broken = AtRemoval;
      grown =
          omega (arith, f);
    }

    module _ (before removed : D) (f : failed removed ≡ failed before)
        (e : calls removed ≡ with_calls (calls before) (Remove link_file true ∷ [])) where
      -- a file was not written
      pub not_written : (after : D) → Stops calls failed files removed after
          → Fails calls failed link files before after
      not_written after h = record {
        made = Remove link_file true ∷ h.made;
        noted = behind (calls before) (calls removed) (calls after) (Remove link_file true ∷ []) h.made e h.noted;
        broken = AtModule h.made h.stops;
        grown = grows_from (failed before) (failed removed) (failed after) f h.grown;
      }

      -- all files were written, and link came behind them
      pub link_behind : (stand after : D) (is_written : Bool)
          → AreMade calls failed (map write_call files) removed stand
          → WritesLink calls failed link is_written stand after
          → SavesFiles calls failed link files is_written before after
      link_behind stand after true h i = record {
        noted = behind (calls before) (calls stand) (calls after) (before_link files) (Write link_file link true ∷ [])
            (behind (calls before) (calls removed) (calls stand) (Remove link_file true ∷ []) (map write_call files) e
            h.noted) i.noted;
        same = i.same ∙ h.same ∙ f;
      }
      link_behind stand after false h i = record {
        made = before_link files ++ Write link_file link false ∷ Remove link_file i.0 ∷ [];
        noted = behind (calls before) (calls stand) (calls after) (before_link files)
            (Write link_file link false ∷ Remove link_file i.0 ∷ [])
            (behind (calls before) (calls removed) (calls stand) (Remove link_file true ∷ []) (map write_call files) e
            h.noted) i.1;
        broken = AtLink i.0;
        grown = grows_from (failed before) (failed stand) (failed after) (h.same ∙ f) i.2;
      }
