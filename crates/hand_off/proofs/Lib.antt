mod Times
mod Orders
