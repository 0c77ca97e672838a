use Rattle.std.proofs.Common.{refl, inl, inr}
use Rattle.x509.proofs.RuleLaws.{passed}
use Rattle.x509.proofs.certificate.Certificate.first_broken_rule.Goals as goal

pub returns-then-breaks-2 : goal.returns-then-breaks-2
returns-then-breaks-2 c = inr (passed c.if-breaks.ensures, inl (c.if-breaks-2.ensures.0 refl, refl))

pub returns-then-breaks-3 : goal.returns-then-breaks-3
returns-then-breaks-3 c = inr (passed c.if-breaks.ensures, inr (passed c.if-breaks-2.ensures, inl (c.if-breaks-3.ensures.0 refl, refl)))

pub returns-then-breaks-4 : goal.returns-then-breaks-4
returns-then-breaks-4 c = inr (passed c.if-breaks.ensures, inr (passed c.if-breaks-2.ensures, inr (passed c.if-breaks-3.ensures, inl (c.if-breaks-4.ensures.0 refl, refl))))

pub returns-then-breaks-5 : goal.returns-then-breaks-5
returns-then-breaks-5 c = inr (passed c.if-breaks.ensures, inr (passed c.if-breaks-2.ensures, inr (passed c.if-breaks-3.ensures, inr (passed c.if-breaks-4.ensures, inl (c.if-breaks-5.ensures.0 refl, refl)))))

pub returns-then-breaks-6 : goal.returns-then-breaks-6
returns-then-breaks-6 c = inr (passed c.if-breaks.ensures, inr (passed c.if-breaks-2.ensures, inr (passed c.if-breaks-3.ensures, inr (passed c.if-breaks-4.ensures, inr (passed c.if-breaks-5.ensures, inl (c.if-breaks-6.ensures.0 refl, refl))))))

pub returns-then-breaks-7 : goal.returns-then-breaks-7
returns-then-breaks-7 c = inr (passed c.if-breaks.ensures, inr (passed c.if-breaks-2.ensures, inr (passed c.if-breaks-3.ensures, inr (passed c.if-breaks-4.ensures, inr (passed c.if-breaks-5.ensures, inr (passed c.if-breaks-6.ensures, inl (c.if-breaks-7.ensures.0 refl, refl)))))))

pub returns-then-breaks-8 : goal.returns-then-breaks-8
returns-then-breaks-8 c = inr (passed c.if-breaks.ensures, inr (passed c.if-breaks-2.ensures, inr (passed c.if-breaks-3.ensures, inr (passed c.if-breaks-4.ensures, inr (passed c.if-breaks-5.ensures, inr (passed c.if-breaks-6.ensures, inr (passed c.if-breaks-7.ensures, inl (c.if-breaks-8.ensures.0 refl, refl))))))))

pub returns-then-breaks-9 : goal.returns-then-breaks-9
returns-then-breaks-9 c = inr (passed c.if-breaks.ensures, inr (passed c.if-breaks-2.ensures, inr (passed c.if-breaks-3.ensures, inr (passed c.if-breaks-4.ensures, inr (passed c.if-breaks-5.ensures, inr (passed c.if-breaks-6.ensures, inr (passed c.if-breaks-7.ensures, inr (passed c.if-breaks-8.ensures, inl (c.if-breaks-9.ensures.0 refl, refl)))))))))

pub returns-then-breaks-10 : goal.returns-then-breaks-10
returns-then-breaks-10 c = inr (passed c.if-breaks.ensures, inr (passed c.if-breaks-2.ensures, inr (passed c.if-breaks-3.ensures, inr (passed c.if-breaks-4.ensures, inr (passed c.if-breaks-5.ensures, inr (passed c.if-breaks-6.ensures, inr (passed c.if-breaks-7.ensures, inr (passed c.if-breaks-8.ensures, inr (passed c.if-breaks-9.ensures, inl (c.if-breaks-10.ensures.0 refl, refl))))))))))

pub returns-then-breaks-11 : goal.returns-then-breaks-11
returns-then-breaks-11 c = inr (passed c.if-breaks.ensures, inr (passed c.if-breaks-2.ensures, inr (passed c.if-breaks-3.ensures, inr (passed c.if-breaks-4.ensures, inr (passed c.if-breaks-5.ensures, inr (passed c.if-breaks-6.ensures, inr (passed c.if-breaks-7.ensures, inr (passed c.if-breaks-8.ensures, inr (passed c.if-breaks-9.ensures, inr (passed c.if-breaks-10.ensures, inl (c.if-breaks-11.ensures.0 refl, refl)))))))))))

pub returns-then-breaks-12 : goal.returns-then-breaks-12
returns-then-breaks-12 c = inr (passed c.if-breaks.ensures, inr (passed c.if-breaks-2.ensures, inr (passed c.if-breaks-3.ensures, inr (passed c.if-breaks-4.ensures, inr (passed c.if-breaks-5.ensures, inr (passed c.if-breaks-6.ensures, inr (passed c.if-breaks-7.ensures, inr (passed c.if-breaks-8.ensures, inr (passed c.if-breaks-9.ensures, inr (passed c.if-breaks-10.ensures, inr (passed c.if-breaks-11.ensures, inl (c.if-breaks-12.ensures.0 refl, refl))))))))))))
