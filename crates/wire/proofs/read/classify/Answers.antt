use Rattle.std.proofs.Common.{◌≡◌}
use Rattle.protocol.specs.Message.{fits_submit, fits_notice}
use Rattle.wire.specs.KindLaws.{told-submit, told-notice, told-full, told_garbled, told-old-evidence, told-evidence}
use Rattle.wire.proofs.read.classify.Goals as goal

pub returns-then-fits : goal.returns-then-fits
unfolding fits_submit
returns-then-fits c = told-submit _ _ _ (rw c.submit_length.ensures at c.fits.ensures) c.if-fits.true

pub returns-then-fits-2 : goal.returns-then-fits-2
unfolding fits_submit fits_notice
returns-then-fits-2 c = told-notice _ _ _ (rw c.submit_length.ensures at c.fits.ensures) c.if-fits.false _ (rw c.notice_length.ensures at c.fits-2.ensures) c.if-fits-2.true

pub returns-then-is_full : goal.returns-then-is_full
unfolding fits_submit fits_notice
returns-then-is_full c =
    let submit : c.fits.result ≡ fits_submit c.args.m.now = rw c.submit_length.ensures at c.fits.ensures in
    let notice : c.fits-2.result ≡ fits_notice c.args.m.now = rw c.notice_length.ensures at c.fits-2.ensures in
    search told-full

pub returns-then-not-is_evidence : goal.returns-then-not-is_evidence
unfolding fits_submit fits_notice
returns-then-not-is_evidence c =
    let submit : c.fits.result ≡ fits_submit c.args.m.now = rw c.submit_length.ensures at c.fits.ensures in
    let notice : c.fits-2.result ≡ fits_notice c.args.m.now = rw c.notice_length.ensures at c.fits-2.ensures in
    search told_garbled

pub returns-then-byte_or_zero-eq5 : goal.returns-then-byte_or_zero-eq5
unfolding fits_submit fits_notice
returns-then-byte_or_zero-eq5 c =
    let submit : c.fits.result ≡ fits_submit c.args.m.now = rw c.submit_length.ensures at c.fits.ensures in
    let notice : c.fits-2.result ≡ fits_notice c.args.m.now = rw c.notice_length.ensures at c.fits-2.ensures in
    search told-old-evidence

pub returns : goal.returns
unfolding fits_submit fits_notice
returns c =
    let submit : c.fits.result ≡ fits_submit c.args.m.now = rw c.submit_length.ensures at c.fits.ensures in
    let notice : c.fits-2.result ≡ fits_notice c.args.m.now = rw c.notice_length.ensures at c.fits-2.ensures in
    search told-evidence
