-- Where readings stop of parts that a first byte tells apart.
use Rattle.std.proofs.Common.{◌≡◌, ◌⊎◌, ℕ, true, false, eqb, List, [], ◌∷◌, ◌++◌, Ok, Err, refl, sym, ap, subst, ◌∙◌, append-nil, inl, inr}
use Rattle.std.proofs.lemmas.Bool.{eqb-true, cases_Bool}
use Rattle.wasm_tree.specs.declared.fault.WFault.{WFault}
use Rattle.wasm_tree.specs.declared.fault.WFault.TheVariants.{Malformed}
use Rattle.wasm_tree.specs.Format.{Format}
use Rattle.wasm_code.proofs.Laws.{IsBytes, IsBytes-tail, bind_ok, read_is}
use Rattle.wasm_code.proofs.LawsTagged.{read_as}
use Rattle.law_format.specs.Places.{Place, fault_at, Cell, bytes_of}
use Rattle.law_format.proofs.Stops.{Stop, Front, front_at, Takes, Stops, Stopping, into}
use Rattle.law_format.proofs.Combined.{failed, err_is, ok_no_err, bind_err}

pub tag_is : (b k : ℕ) → (b ≡ k) ⊎ (eqb b k ≡ false)
tag_is b k = elim (cases_Bool (eqb b k)) [
  | inl same ↦ inl (eqb-true b k same)
  | inr other ↦ inr other
]

-- nothing at all
abbrev pub nothing : Format (Unit {0})
nothing = record { encoding = λ u. []; reading = λ bytes. Ok (tt, bytes); fits = λ u. true }

abbrev no_cells : Unit {0} → List Cell
no_cells u = []

pub nothing_stops : Stopping nothing (λ u. [])
nothing_stops = record {
  takes = λ bytes x rest fits e. front_at nothing no_cells bytes tt x bytes rest (read_is tt x bytes rest e)
      (record { parts = refl; rest_fits = fits; fits = refl; again = λ follow h. refl });
  stops = λ bytes fault fits e. absurd (ok_no_err (tt, bytes) fault e);
  some = tt;
  some_fits = refl;
}

-- some value with a first byte in this place
pub record Start {B : Type 0} (r : Format B) (cr : B → List Cell) (place : Place) : Type 0 where
  pub value : B
  pub fits : r.fits value ≡ true
  pub byte : ℕ
  pub rest : List Cell
  pub begins : cr value ≡ (place, byte) ∷ rest

-- what is read behind this byte, with it
pub record At {B : Type 0} (r : Format B) (cr : B → List Cell) (b : ℕ) : Type 0 where
  pub takes : (bs : List ℕ) (x : B) (rest : List ℕ) → IsBytes (b ∷ bs) → r.reading (b ∷ bs) ≡ Ok (x, rest)
      → Front r cr (b ∷ bs) x rest
  pub stops : (bs : List ℕ) (fault : WFault) → IsBytes (b ∷ bs) → r.reading (b ∷ bs) ≡ Err fault
      → Stop r cr (b ∷ bs) fault

pub at_same : {B : Type 0} (r : Format B) (cr : B → List Cell) (b k : ℕ) → b ≡ k → At r cr k → At r cr b
at_same r cr b k e a = subst (λ (c : ℕ). At r cr c) (sym e) a

module _ {B : Type 0} (r : Format B) (cr : B → List Cell) (place : Place) where
  -- a byte that cannot stand there
  pub no_tag : Start r cr place → (b : ℕ) → ((bs : List ℕ) → r.reading (b ∷ bs) ≡ Err (fault_at place)) → At r cr b
  no_tag start b none = record {
    takes = λ bs x rest fits e. absurd (ok_no_err (x, rest) (fault_at place) (sym e ∙ none bs));
    stops = λ bs fault fits e.
        let is : fault_at place ≡ fault = err_is {A = B × List ℕ} (fault_at place) fault (sym (none bs) ∙ e) in
        record {
          front = [];
          at = b ∷ bs;
          parts = refl;
          value = start.value;
          fits = start.fits;
          next = (place, start.byte);
          rest = start.rest;
          begins = start.begins;
          how = (sym is, λ follow g. none follow ∙ ap (λ (f : WFault). failed {A = B × List ℕ} f) is);
        };
  }

  pub no_byte : Start r cr place → r.reading [] ≡ Err Malformed → (fault : WFault) → r.reading [] ≡ Err fault
      → Stop r cr [] fault
  no_byte start missing fault e = record {
    front = [];
    at = [];
    parts = refl;
    value = start.value;
    fits = start.fits;
    next = (place, start.byte);
    rest = start.rest;
    begins = start.begins;
    how = sym (err_is {A = B × List ℕ} Malformed fault (sym missing ∙ e));
  }

  module _ (start : Start r cr place) (missing : r.reading [] ≡ Err Malformed) (at : (b : ℕ) → At r cr b) where
    tags_take : Takes r cr
    tags_take [] x rest fits e = absurd (ok_no_err (x, rest) Malformed (sym e ∙ missing))
    tags_take (b ∷ bs) x rest fits e = (at b).takes bs x rest fits e

    tags_stop : Stops r cr
    tags_stop [] fault fits e = no_byte start missing fault e
    tags_stop (b ∷ bs) fault fits e = (at b).stops bs fault fits e

    pub tags : Stopping r cr
    tags = record { takes = tags_take; stops = tags_stop; some = start.value; some_fits = start.fits }

-- a byte with a part behind it
module _ {A B : Type 0} (p : Format A) (cp : A → List Cell) (sp : Stopping p cp) (r : Format B) (cr : B → List Cell)
    (place : Place) (k : ℕ) (make : A → B)
    (made : (x : A) → p.fits x ≡ true → cr (make x) ≡ (place, k) ∷ cp x)
    (fit : (x : A) → p.fits x ≡ true → r.fits (make x) ≡ true)
    (reads : (bs : List ℕ) → r.reading (k ∷ bs) ≡ read_as make (p.reading bs)) where
  tag_takes : (bs : List ℕ) (z : B) (rest : List ℕ) → IsBytes (k ∷ bs) → r.reading (k ∷ bs) ≡ Ok (z, rest)
      → Front r cr (k ∷ bs) z rest
  tag_takes bs z rest fits e =
      let a = bind_ok (p.reading bs) (λ x. Ok (make x.0, x.1)) (z, rest) (sym (reads bs) ∙ e) in
      let f = sp.takes bs a.0.0 a.0.1 (IsBytes-tail k bs fits) a.1 in
      let same : bytes_of (cr (make a.0.0)) ≡ k ∷ bytes_of (cp a.0.0) = ap bytes_of (made a.0.0 f.fits) in
      front_at r cr (k ∷ bs) (make a.0.0) z a.0.1 rest (read_is (make a.0.0) z a.0.1 rest a.2) (record {
        parts = ap (λ (t : List ℕ). k ∷ t) f.parts ∙ ap (λ (t : List ℕ). t ++ a.0.1) (sym same);
        rest_fits = f.rest_fits;
        fits = fit a.0.0 f.fits;
        again = λ follow h. ap (λ (t : List ℕ). r.reading (t ++ follow)) same ∙ reads (bytes_of (cp a.0.0) ++ follow)
            ∙ ap (read_as make) (f.again follow h);
      })

  tag_stops : (bs : List ℕ) (fault : WFault) → IsBytes (k ∷ bs) → r.reading (k ∷ bs) ≡ Err fault
      → Stop r cr (k ∷ bs) fault
  tag_stops bs fault fits e =
      into p cp r cr ((place, k) ∷ []) make (λ x. [])
      (λ x h. made x h ∙ ap (λ (t : List Cell). (place, k) ∷ t) (sym (append-nil (cp x)))) fit
      (λ t f b h. reads t ∙ ap (read_as make) h) bs fault
      (sp.stops bs fault (IsBytes-tail k bs fits)
      (bind_err (p.reading bs) (λ x. (make x.0, x.1)) fault (sym (reads bs) ∙ e)))

  pub tag : At r cr k
  tag = record { takes = tag_takes; stops = tag_stops }

  pub tag_start : Start r cr place
  tag_start = record {
    value = make sp.some;
    fits = fit sp.some sp.some_fits;
    byte = k;
    rest = cp sp.some;
    begins =
        made sp.some sp.some_fits;
  }
