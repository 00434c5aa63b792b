-- Steps that a premise rules out.
use Rattle.std.proofs.Common.{◌≡◌, ℕ, Bool, true, false, ◌&&◌, eqb, is_some, Some, None, Option, refl, ap, arith}
use Rattle.format.specs.declared.spot.Spot.TheVariants.{At}
use Rattle.format.specs.Parts.{Contents}
use Rattle.steps.specs.declared.item.Item.{Item}
use Rattle.steps.specs.Items.{same_spot}
use Rattle.steps.specs.Conclusions.{when, site_of, stays, listed, finished, completes, complete_at, complete, starts_foot, lists_at, foots, foot_complete, whole, fills, adjoins, adjoin_at, adjoin_complete}

-- Steps that one premise rules out -----------------------------------------------------------------------------------------------

and_false : (a b : Bool) → b ≡ false → (a && b) ≡ false
and_false true b h = h
and_false false b h = refl

not_when : (b : Bool) (x : Item) → b ≡ false → when b x ≡ None
not_when b x h = ap (λ (v : Bool). when v x) h

pub unfinished_completes : (c : Contents) (a : ℕ) (x : Item) (b : ℕ) (y : Item) → finished c y ≡ false → complete c a x b y ≡ None
unfinished_completes c a x b y h = by (site_of c x)
  where
    by : (o : Option ℕ) → complete_at c a x b y o ≡ None
    by None = refl
    by (Some n) = not_when (completes c x y n) _
        (and_false (eqb y.tree x.tree) _ (and_false (same_spot y.spot (At n)) _ (and_false (eqb y.i x.j) _ (and_false (stays c x.tree n) (finished c y) h))))

pub no_site_completes : (c : Contents) (a : ℕ) (x : Item) (b : ℕ) (y : Item) → site_of c x ≡ None → complete c a x b y ≡ None
no_site_completes c a x b y h = ap (complete_at c a x b y) h

pub no_foot_starts : (c : Contents) (a : ℕ) (x : Item) (b : ℕ) (f : Item) → starts_foot c f ≡ false → foot_complete c a x b f ≡ None
no_foot_starts c a x b f h = not_when (foots c x f) _ (ap (λ (v : Bool). v && (eqb f.i x.i && (lists_at c x.tree x.spot f.tree && finished c x))) h)

pub unfinished_foot : (c : Contents) (a : ℕ) (x : Item) (b : ℕ) (f : Item) → finished c x ≡ false → foot_complete c a x b f ≡ None
unfinished_foot c a x b f h = not_when (foots c x f) _ (and_false (starts_foot c f) _ (and_false (eqb f.i x.i) _ (and_false (lists_at c x.tree x.spot f.tree) (finished c x) h)))

pub none_from : {X : Type 0} (o : Option X) → is_some o ≡ false → o ≡ None
none_from None h = refl
none_from (Some x) h = elim (let z : ◌≡◌ {A = ℕ} 0 1 = cc in let f : ⊥ = omega arith in f) [ ]

module _ (c : Contents) (a : ℕ) (x : Item) (b : ℕ) (y : Item) (k : ℕ) (z : Item) where
  pub not_filled : fills x y ≡ false → adjoin_complete c a x b y k z ≡ None
  not_filled h = by (site_of c z)
    where
      by : (o : Option ℕ) → adjoin_at c a x b y k z o ≡ None
      by None = refl
      by (Some n) = not_when (adjoins c x y z n) _ (ap (λ (v : Bool). v && (eqb y.tree z.tree && (same_spot y.spot (At n) && (eqb x.i z.j && (listed c z.tree n x.tree && finished c y))))) h)

  pub not_whole : whole x ≡ false → adjoin_complete c a x b y k z ≡ None
  not_whole h = not_filled (ap (λ (v : Bool). v && (eqb y.i x.p && eqb y.j x.q)) h)

  pub unfinished_content : finished c y ≡ false → adjoin_complete c a x b y k z ≡ None
  unfinished_content h = by (site_of c z)
    where
      by : (o : Option ℕ) → adjoin_at c a x b y k z o ≡ None
      by None = refl
      by (Some n) = not_when (adjoins c x y z n) _
          (and_false (fills x y) _ (and_false (eqb y.tree z.tree) _ (and_false (same_spot y.spot (At n)) _ (and_false (eqb x.i z.j) _ (and_false (listed c z.tree n x.tree) (finished c y) h)))))

  pub not_before : eqb x.i z.j ≡ false → adjoin_complete c a x b y k z ≡ None
  not_before h = by (site_of c z)
    where
      by : (o : Option ℕ) → adjoin_at c a x b y k z o ≡ None
      by None = refl
      by (Some n) = not_when (adjoins c x y z n) _
          (and_false (fills x y) _ (and_false (eqb y.tree z.tree) _ (and_false (same_spot y.spot (At n)) _
          (ap (λ (v : Bool). v && (listed c z.tree n x.tree && finished c y)) h))))

  pub no_site_adjoins : site_of c z ≡ None → adjoin_complete c a x b y k z ≡ None
  no_site_adjoins h = ap (adjoin_at c a x b y k z) h

  pub not_content : (fills x y && finished c y) ≡ false → adjoin_complete c a x b y k z ≡ None
  not_content h = by (fills x y) refl h
    where
      by : (f : Bool) → fills x y ≡ f → (f && finished c y) ≡ false → adjoin_complete c a x b y k z ≡ None
      by true e h = unfinished_content h
      by false e h = not_filled e

  pub not_placed : (eqb x.i z.j && is_some (site_of c z)) ≡ false → adjoin_complete c a x b y k z ≡ None
  not_placed h = by (eqb x.i z.j) refl h
    where
      by : (f : Bool) → eqb x.i z.j ≡ f → (f && is_some (site_of c z)) ≡ false → adjoin_complete c a x b y k z ≡ None
      by true e h = no_site_adjoins (none_from (site_of c z) h)
      by false e h = not_before e
