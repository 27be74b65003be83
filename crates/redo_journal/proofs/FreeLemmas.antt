-- What follows a journal's last gate is free.
use Rattle.std.proofs.Common.{◌≤◌, inl, ℕ, ◌+◌, List, [], ◌∷◌, ◌++◌, length, refl, sym, ◌∙◌, arith, length-append}
use Rattle.std.proofs.lemmas.List.{drop_all, take_all, take_at}
use Rattle.hs_disk.specs.Disk.{Torn}
use Rattle.redo_journal.specs.Damage.{IsDamagedAt}
use Rattle.redo_journal.specs.Image.{Contents, Journals, IsFresh}
use Rattle.redo_journal.proofs.FormLemmas.{form_kept}
use Rattle.redo_journal.proofs.StandLemmas.{closed_kept, closed_within}

-- more bytes behind an image are a write at its end
gone_on : (image more : List ℕ) → Torn (length image) (length more) image (image ++ more)
gone_on image more = record {
  before = take_at image more (length image) refl ∙ sym (take_all (length image) image (omega arith));
  after = drop_all (length image + length more) (image ++ more) (omega (arith, length-append image more)) ∙ sym (drop_all (length image + length more) image (omega arith));
  no_shorter = omega (arith, length-append image more);
  no_longer = omega (arith, length-append image more);
}

pub journals_on : (text image more : List ℕ) (contents : Contents) → Journals text contents image → Journals text contents (image ++ more)
journals_on text image more contents is = record {
  root = is.root;
  gate = is.gate;
  is = record {
    text_fits = is.is.text_fits;
    payloads_fit = is.is.payloads_fit;
    form = form_kept (length image) (length more) image (image ++ more) (gone_on image more) text contents.first contents.payloads contents.area is.root is.gate (omega (arith, closed_within is.gate image is.is.shut)) is.is.form;
    shut = closed_kept (length image) (length more) is.gate image (image ++ more) (gone_on image more) (inl (omega (arith, closed_within is.gate image is.is.shut))) is.is.shut;
  };
}

pub fresh_on : (image more : List ℕ) → 2 ≤ length image → IsFresh image → IsFresh (image ++ more)
fresh_on [] more two fresh = absurd (omega (arith, two))
fresh_on (gate ∷ []) more two fresh = absurd (omega (arith, two))
fresh_on (gate ∷ byte ∷ rest) more two fresh = fresh

pub one_byte : (text : List ℕ) → IsFresh (1 ∷ []) × IsDamagedAt text 0 (1 ∷ 0 ∷ [])
one_byte text = (tt, inl (refl, (refl, λ is. absurd cc, inl (λ is. absurd cc))))
