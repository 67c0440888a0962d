mod LineLaws
mod NumberLaws
mod PieceLaws
mod ReadLaws
mod WordLaws
mod WriteLaws
