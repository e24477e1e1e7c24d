-- Lanes are made and given back under the rule.
use Rattle.std.proofs.Common.{◌≡◌, ◌≢◌, ℕ, ◌+◌, ◌<◌, true, true≢false, [], ◌∷◌, length, set, sym, refl, ap, ◌∙◌, arith, ⊎_elim}
use Rattle.std.specs.Prelude.{Some, None}
use Rattle.atomic_table.proofs.Lists.{at_set}
use Rattle.crossbeam_queue.specs.Fifo.{Forks, Merges}
use Rattle.split_paths.proofs.Lists.{all_append, all_weaker}
use Rattle.tally_laws.proofs.Places.{each_set, each_end, each_one}
use Rattle.tally_laws.specs.Places.{HasAt}
use Rattle.event_lanes.proofs.Updates.{at, at-here, at-else}
use Rattle.event_lanes.specs.declared.rule.View.{View}
use Rattle.event_lanes.specs.Passes.{drain_pass, spent_pass, grown, with_made, new_lane, with_back}
use Rattle.event_lanes.specs.Rule.{Traffic, FitsBack, FitsPass, KeepsHub}
use Rattle.event_lanes.proofs.Stays.{lane_stays, back_stays, one_drain, back_apart, lane_apart, spent_fits}

module _ {A : Type 0} where
  module _ (IsTrue : A → Type 0) where
    pub begins : KeepsHub IsTrue [] (drain_pass 0 0 [] [] ∷ [])
    begins = (
      record { reader = 0; seat = λ lane. None; sent = λ lane. []; got = []; lanes = 0; made = 0 },
      record {
        known = tt;
        order = λ lane. refl;
        few = omega arith;
        unmade = λ lane _. (refl, refl);
        fits =
            each_one _ _ (
              (λ puts. absurd (true≢false (sym puts))),
              λ _. record { only = refl; made = refl; taken = refl; lanes = refl; backs = tt },
            );
      },
    )

    -- before a lane is made, there may be one lane more
    pub grows : (pass : ℕ) (v : View A) → v.drains ≡ true → v.made ≡ 0
        → Forks (KeepsHub IsTrue) pass v (grown v) spent_pass
    grows pass v drains none items views (traffic, agrees) at_pass =
        let mine = (agrees.fits pass v at_pass).1 drains in
        let new : Traffic A = record traffic { lanes = traffic.lanes + 1 } in
        let grown_fits : FitsPass new pass (grown v) = (
          (λ puts. absurd (true≢false (sym puts))),
          λ _. record {
            only = mine.only;
            made = mine.made;
            taken = mine.taken;
            lanes = ap (λ n. n + 1) mine.lanes;
            backs =
                all_weaker _ _ (λ back fits. back_stays traffic new back refl (omega arith) refl fits) v.backs mine.backs;
          },
        ) in (
          new,
          record {
            known = agrees.known;
            order = agrees.order;
            few = (let few = agrees.few in omega arith);
            unmade = agrees.unmade;
            fits =
                each_end (FitsPass new) (set views pass (grown v)) spent_pass
                (each_set (FitsPass new) views pass (grown v) grown_fits
                (λ other found apart at_other. (
                  (λ puts.
                      let theirs = (agrees.fits other found at_other).0 puts in
                      let below : found.number < traffic.made = theirs.made in
                      let zero : v.made ≡ traffic.made = mine.made in absurd (omega arith)),
                  λ draining. absurd
                      (one_drain traffic pass other v found mine apart ((agrees.fits other found at_other).1 draining)),
                )))
                (spent_fits new (length (set views pass (grown v))));
          },
        )

    -- a lane is made while there may be more
    pub makes : (pass : ℕ) (v : View A) → v.drains ≡ true → v.made < v.lanes
        → Forks (KeepsHub IsTrue) pass v (with_made v) (new_lane v)
    makes pass v drains room items views (traffic, agrees) at_pass =
        let mine = (agrees.fits pass v at_pass).1 drains in
        let seats : ℕ = length (set views pass (with_made v)) in
        let new : Traffic A =
        record traffic { seat = at traffic.seat traffic.made (Some seats); made = traffic.made + 1 } in
        let made_fits : FitsPass new pass (with_made v) = (
          (λ puts. absurd (true≢false (sym puts))),
          λ _. record {
            only = mine.only;
            made = ap (λ n. n + 1) mine.made;
            taken = mine.taken;
            lanes = mine.lanes;
            backs =
                all_weaker _ _
                (λ back fits.
                back_stays traffic new back
                (at-else traffic.seat traffic.made (Some seats) back.lane
                (λ same. let below : back.lane < traffic.made = fits.made in omega arith))
                (omega arith) refl fits)
                v.backs mine.backs;
          },
        ) in
        let lane_fits : FitsPass new seats (new_lane v) = (
          (λ _. record {
            only = at-here traffic.seat traffic.made (Some seats) v.made mine.made;
            made = (let same : v.made ≡ traffic.made = mine.made in omega arith);
            put = sym (agrees.unmade v.made (let same : v.made ≡ traffic.made = mine.made in omega arith)).1;
            lanes = mine.lanes;
          }),
          λ draining. absurd (true≢false (sym draining)),
        ) in (
          new,
          record {
            known = agrees.known;
            order = agrees.order;
            few =
                (let same : v.made ≡ traffic.made = mine.made in
                let all : v.lanes ≡ traffic.lanes = mine.lanes in omega arith);
            unmade =
                λ lane later. (
                  at-else traffic.seat traffic.made (Some seats) lane (λ same. omega arith)
                      ∙ (agrees.unmade lane (omega arith)).0,
                  (agrees.unmade lane (omega arith)).1,
                );
            fits =
                each_end (FitsPass new) (set views pass (with_made v)) (new_lane v)
                (each_set (FitsPass new) views pass (with_made v) made_fits
                (λ other found apart at_other. (
                  (λ puts.
                      let theirs = (agrees.fits other found at_other).0 puts in
                      lane_stays traffic new other found
                      (at-else traffic.seat traffic.made (Some seats) found.number
                      (λ same. let below : found.number < traffic.made = theirs.made in omega arith))
                      (omega arith) refl refl theirs),
                  λ draining. absurd
                      (one_drain traffic pass other v found mine apart ((agrees.fits other found at_other).1 draining)),
                )))
                lane_fits;
          },
        )

    -- a lane is given back
    pub returns : (pass : ℕ) (v : View A) (lane : ℕ) (w : View A) → v.drains ≡ true → w.puts ≡ true
        → Merges (KeepsHub IsTrue) pass v lane w (with_back v w) spent_pass
    returns pass v lane w drains puts items views (traffic, agrees) at_pass apart at_lane =
        let mine = (agrees.fits pass v at_pass).1 drains in
        let was : HasAt views lane w =
        ⊎_elim (λ here. absurd (apart here.0)) (λ there. there.1) (at_set views pass lane (with_back v w) w at_lane) in
        let theirs = (agrees.fits lane w was).0 puts in
        let new : Traffic A = record traffic { seat = at traffic.seat w.number None } in
        let back_fits : FitsPass new pass (with_back v w) = (
          (λ putting. absurd (true≢false (sym putting))),
          λ _. record {
            only = mine.only;
            made = mine.made;
            taken = mine.taken;
            lanes = mine.lanes;
            backs =
                all_append (FitsBack new) v.backs _
                (all_weaker _ _
                (λ back fits.
                back_stays traffic new back
                (at-else traffic.seat w.number None back.lane (back_apart traffic lane w back theirs fits))
                (omega arith) refl fits)
                v.backs mine.backs) (
                  record {
                    gone = at-here traffic.seat w.number None w.number refl;
                    made = theirs.made;
                    put = theirs.put;
                  },
                  tt,
                );
          },
        ) in (
          new,
          record {
            known = agrees.known;
            order = agrees.order;
            few = agrees.few;
            unmade =
                λ number later. (
                  at-else traffic.seat w.number None number
                      (λ same. let below : w.number < traffic.made = theirs.made in omega arith)
                      ∙ (agrees.unmade number later).0,
                  (agrees.unmade number later).1,
                );
            fits =
                each_set (FitsPass new) (set views pass (with_back v w)) lane spent_pass (spent_fits new lane)
                (λ other found elsewhere at_other.
                each_set (λ place view. place ≢ lane → FitsPass new place view) views pass (with_back v w)
                (λ _. back_fits)
                (λ place view off at_place not_lane. (
                  (λ putting.
                      let fits = (agrees.fits place view at_place).0 putting in
                      lane_stays traffic new place view
                      (at-else traffic.seat w.number None view.number
                      (lane_apart traffic lane place w view theirs fits not_lane))
                      (omega arith) refl refl fits),
                  λ draining. absurd
                      (one_drain traffic pass place v view mine off ((agrees.fits place view at_place).1 draining)),
                ))
                other found at_other elsewhere);
          },
        )
