use Rattle.pl_follow.proofs.urls.UrlIndexFollow.change.Goals as goal

pub returns-in-Some-None : goal.returns-in-Some-None
returns-in-Some-None c =
    rw (c.in-Some-None.is-0, c.in-Some-None.is-1)
    (record { follows = λ views stands suits. c.take_out.ensures views stands suits.goes })
