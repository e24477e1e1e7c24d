-- Items are put and taken under the rule.
use Rattle.std.proofs.Common.{◌≡◌, ℕ, ◌<◌, true, true≢false, List, [], ◌∷◌, ◌++◌, sym, refl, ap, ◌∙◌, arith, append_assoc, append-nil, ap₂}
use Rattle.std.specs.List.{AllByRecursion}
use native.Mathlib.Decide.{ℕ_discrete}
use Rattle.crossbeam_queue.specs.Fifo.{Pushes, Pops}
use Rattle.split_paths.proofs.Lists.{all_append, all_weaker}
use Rattle.tally_laws.proofs.Places.{each_set}
use Rattle.event_lanes.proofs.Lanes.{of_lane-append, of_lane-own, of_lane-other, prefix_of, all_made}
use Rattle.event_lanes.proofs.Updates.{at, at-here, at-else}
use Rattle.event_lanes.specs.declared.rule.Post.{Post}
use Rattle.event_lanes.specs.declared.rule.View.{View}
use Rattle.event_lanes.specs.Passes.{with_put, with_taken}
use Rattle.event_lanes.specs.Posts.{of_lane}
use Rattle.event_lanes.specs.Rule.{Traffic, FitsPass, KeepsHub, IsNext}
use Rattle.event_lanes.proofs.Stays.{lane_stays, back_stays, one_drain, back_apart, lane_apart}

module _ {A : Type 0} where
  -- an item that joins at the end of the queue joins at the end of its lane, and of no other
  put_order : (traffic : Traffic A) (items : List (Post A)) (x : Post A) (number : ℕ) → x.lane ≡ number
      → ((lane : ℕ) → of_lane lane (traffic.got ++ items) ≡ traffic.sent lane)
      → (lane : ℕ) → Dec (lane ≡ number)
      → of_lane lane (traffic.got ++ (items ++ x ∷ [])) ≡ at traffic.sent number (traffic.sent number ++ x.item ∷ []) lane
  put_order traffic items x number own order lane (yes same) =
      ap (of_lane lane) (sym (append_assoc traffic.got items (x ∷ [])))
      ∙ of_lane-append lane (traffic.got ++ items) (x ∷ [])
      ∙ ap₂ ◌++◌ (order lane ∙ ap traffic.sent same) (of_lane-own lane x [] (own ∙ sym same))
      ∙ sym (at-here traffic.sent number (traffic.sent number ++ x.item ∷ []) lane same)
  put_order traffic items x number own order lane (no apart) =
      ap (of_lane lane) (sym (append_assoc traffic.got items (x ∷ [])))
      ∙ of_lane-append lane (traffic.got ++ items) (x ∷ [])
      ∙ ap₂ ◌++◌ (order lane) (of_lane-other lane x [] (λ same. apart (sym same ∙ own)))
      ∙ append-nil (traffic.sent lane)
      ∙ sym (at-else traffic.sent number (traffic.sent number ++ x.item ∷ []) lane apart)

  -- what holds of each holds of one that stands behind others
  first_after : (made : ℕ) (xs : List (Post A)) (x : Post A) (ys : List (Post A))
      → AllByRecursion (λ (post : Post A). post.lane < made) (xs ++ (x ∷ ys)) → x.lane < made
  first_after made [] x ys each = each.0
  first_after made (y ∷ xs) x ys each = first_after made xs x ys each.1

  module _ (IsTrue : A → Type 0) where
    -- a lane puts a true item
    pub puts : (room pass : ℕ) (v : View A) (x : Post A) → v.puts ≡ true → x.lane ≡ v.number → IsTrue x.item
        → Pushes (KeepsHub IsTrue) room pass v x (λ w. w ≡ with_put v x.item)
    puts room pass v x may own true_item items views _ (traffic, agrees) at_pass =
        let mine = (agrees.fits pass v at_pass).0 may in
        let longer : List A = traffic.sent v.number ++ x.item ∷ [] in
        let new : Traffic A = record traffic { sent = at traffic.sent v.number longer } in
        let put_fits : FitsPass new pass (with_put v x.item) = (
          (λ _. record {
            only = mine.only;
            made = mine.made;
            put =
                ap (λ put. put ++ x.item ∷ []) mine.put
                ∙ sym (at-here traffic.sent v.number longer v.number refl);
            lanes = mine.lanes;
          }),
          λ draining. absurd (true≢false (sym draining)),
        ) in (
          with_put v x.item,
          (
            new,
            record {
              known = all_append _ items (x ∷ []) agrees.known (true_item, tt);
              order = λ lane. put_order traffic items x v.number own agrees.order lane (ℕ_discrete lane v.number);
              few = agrees.few;
              unmade =
                  λ lane later. (
                    (agrees.unmade lane later).0,
                    at-else traffic.sent v.number longer lane
                        (λ same. let below : v.number < traffic.made = mine.made in omega arith)
                        ∙ (agrees.unmade lane later).1,
                  );
              fits =
                  each_set (FitsPass new) views pass (with_put v x.item) put_fits
                  (λ other found apart at_other. (
                    (λ puts.
                        let theirs = (agrees.fits other found at_other).0 puts in
                        lane_stays traffic new other found refl (omega arith)
                        (at-else traffic.sent v.number longer found.number
                        (lane_apart traffic pass other v found mine theirs apart))
                        refl theirs),
                    λ draining.
                        let theirs = (agrees.fits other found at_other).1 draining in
                        record {
                          only = theirs.only;
                          made = theirs.made;
                          taken = theirs.taken;
                          lanes = theirs.lanes;
                          backs =
                              all_weaker _ _
                              (λ back fits.
                              back_stays traffic new back refl (omega arith)
                              (at-else traffic.sent v.number longer back.lane
                              (back_apart traffic pass v back mine fits))
                              fits)
                              found.backs theirs.backs;
                        },
                  ));
            },
          ),
          refl,
        )

    -- the drain takes the item in front
    pub takes : (pass : ℕ) (v : View A) → v.drains ≡ true
        → Pops (KeepsHub IsTrue) pass v (λ x w. (w ≡ with_taken v x) × IsNext IsTrue v x)
    takes pass v drains x items views (traffic, agrees) at_pass =
        let mine = (agrees.fits pass v at_pass).1 drains in
        let new : Traffic A = record traffic { got = traffic.got ++ x ∷ [] } in
        let moved : (traffic.got ++ x ∷ []) ++ items ≡ traffic.got ++ (x ∷ items) =
        append_assoc traffic.got (x ∷ []) items in
        let took_fits : FitsPass new pass (with_taken v x) = (
          (λ puts. absurd (true≢false (sym puts))),
          λ _. record {
            only = mine.only;
            made = mine.made;
            taken = ap (λ taken. taken ++ x ∷ []) mine.taken;
            lanes = mine.lanes;
            backs =
                all_weaker _ _ (λ back fits. back_stays traffic new back refl (omega arith) refl fits) v.backs mine.backs;
          },
        ) in
        let left : (lane : ℕ) → of_lane lane (new.got ++ items) ≡ traffic.sent lane =
        (λ lane. ap (of_lane lane) moved ∙ agrees.order lane) in (
          with_taken v x,
          (
            new,
            record {
              known = agrees.known.1;
              order = left;
              few = agrees.few;
              unmade = agrees.unmade;
              fits =
                  each_set (FitsPass new) views pass (with_taken v x) took_fits
                  (λ other found apart at_other. (
                    (λ puts. lane_stays traffic new other found refl (omega arith) refl refl ((agrees.fits other found at_other).0 puts)),
                    λ draining. absurd
                        (one_drain traffic pass other v found mine apart ((agrees.fits other found at_other).1 draining)),
                  ));
            },
          ),
          (
            refl,
            record {
              known = agrees.known.0;
              made =
                  (let each = all_made traffic.made (traffic.got ++ (x ∷ items))
                  (λ lane later. agrees.order lane ∙ (agrees.unmade lane later).1) in
                  let mine_below : x.lane < traffic.made = first_after traffic.made traffic.got x items each in
                  let same : v.made ≡ traffic.made = mine.made in omega arith);
              prefixes =
                  all_weaker _ _
                  (λ back fits.
                  prefix_of (of_lane back.lane (v.taken ++ x ∷ [])) (of_lane back.lane items) back.put
                  (fits.put ∙ sym (left back.lane) ∙ of_lane-append back.lane (traffic.got ++ x ∷ []) items
                  ∙ ap (λ taken. of_lane back.lane (taken ++ x ∷ []) ++ of_lane back.lane items) (sym mine.taken)))
                  v.backs mine.backs;
            },
          ),
        )
